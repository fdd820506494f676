-- `rig_tally::lines::put_number_line` meets its contract: the digits, and the line end behind them.
-- Assumes nothing.
use Prim.Native.Nat.{◌+◌, ◌≤◌}
use native.Mathlib.Omega.{arith}
use Rattle.runs.proofs.Digits.{digits_fit}
use Rattle.runs.proofs.Puts.{puts_then}
use Rattle.rig_tally.proofs.lines.put_number_line.Goals as goal

pub put_decimal-next-requires : goal.put_decimal-next-requires
put_decimal-next-requires c =
    omega (arith, digits_fit c.args.x (omega arith), c.requires)

pub put_byte-requires : goal.put_byte-requires
put_byte-requires c =
    omega (arith, digits_fit c.args.x (omega arith), c.requires, c.put_decimal-next.ensures.next_is)

pub returns : goal.returns
returns c =
    let le : c.put_byte.result ≤ c.args.at + 6 =
    omega (arith, digits_fit c.args.x (omega arith), c.put_decimal-next.ensures.next_is, c.put_byte.ensures.next_is) in
    (puts_then (omega (arith, le, c.requires)) c.put_decimal-next.ensures c.put_byte.ensures, le)
