-- `arguments::table::row_count` meets its contract: up to ten flags the shift loses no bit.
-- Assumes nothing.
use mathlib.Core.Path.{◌∙◌}
use native.Mathlib.Nat.{one-mul}
use native.Mathlib.Omega.{arith}
use lib.Pow.{shl_exact}
use Rattle.arguments.proofs.table.row_count.Goals as goal

pub returns : goal.returns
returns c = shl_exact 1 c.args.n 64 (omega arith) (omega arith) ∙ one-mul _
