-- `sessions::ending::row_count` meets its contract: ten flags have 1,024 rows, and fewer have no more.
-- Assumes nothing.
use Prim.Native.Nat.{◌≤◌}
use lib.Pow.{pow_mono}
use native.Mathlib.Omega.{arith}
use Rattle.std.proofs.Math.Nat.{min-le_right}
use Rattle.sessions.proofs.ending.row_count.Goals as goal

pub returns : goal.returns
returns c =
    let few : c.min.result ≤ 10 = omega (arith, c.min.ensures, min-le_right c.args.n 10) in
    omega (arith, c.row_count.ensures, pow_mono {j = 10} few)
