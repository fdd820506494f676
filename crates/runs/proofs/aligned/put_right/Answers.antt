-- `runs::aligned::put_right` meets its contract: blanks, and the digits behind them.
-- Assumes nothing.
use native.Mathlib.Omega.{arith}
use Rattle.runs.proofs.Blanks.{right-length, right_fits, puts_right}
use Rattle.runs.proofs.aligned.put_right.Goals as goal

pub put_decimal-requires : goal.put_decimal-requires
put_decimal-requires c =
    omega (arith, right_fits c.args.places c.args.x c.requires.0 c.requires.1 c.digits.ensures c.put_blanks-next.ensures)

pub returns : goal.returns
returns c =
    let digits = c.put_decimal.ensures in
    let a = c.args in
    let whole = puts_right a.places a.x c.requires.0 c.requires.1 c.digits.ensures c.put_blanks-next.ensures digits in
    (whole, omega (arith, whole.next_is, right-length a.places a.x c.requires.0))
