-- `runs::decimal::put_number` meets its contract: the blank, and the digits behind it.
-- Assumes nothing.
use native.Mathlib.Omega.{arith}
use Rattle.runs.proofs.Digits.{digits_fit, number_le, puts_number}
use Rattle.runs.proofs.decimal.put_number.Goals as goal

pub put_decimal-requires : goal.put_decimal-requires
put_decimal-requires c =
    omega (arith, digits_fit c.args.x (omega arith), c.requires, c.put_byte-next.ensures.next_is)

pub returns : goal.returns
returns c =
    let whole = puts_number c.args.x (omega arith) c.requires c.put_byte-next.ensures c.put_decimal.ensures in
    (whole, omega (arith, whole.next_is, number_le c.args.x (omega arith)))
