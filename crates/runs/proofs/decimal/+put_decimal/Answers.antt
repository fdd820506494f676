-- `runs::decimal::put_decimal` meets its contract: the measure is the number, and the last digit stands behind those of a tenth.
-- Assumes nothing.
use native.Mathlib.Omega.{arith}
use Rattle.runs.proofs.Digits.{few_fits, puts_few, length_more, puts_tens}
use Rattle.runs.proofs.decimal.+put_decimal.Goals as goal

pub put_byte-requires : goal.put_byte-requires
put_byte-requires t c = few_fits c.args.x c.if-x-lt10.true c.requires

pub returns-then-x-lt10 : goal.returns-then-x-lt10
returns-then-x-lt10 t c = puts_few c.args.x c.if-x-lt10.true c.put_byte.ensures

pub put_decimal-next-requires : goal.put_decimal-next-requires
put_decimal-next-requires t c = let x = c.args.x in
    (omega (arith, c.if-x-lt10.false, c.decreases), omega (arith, length_more x c.if-x-lt10.false, c.requires))

pub put_byte-requires-2 : goal.put_byte-requires-2
put_byte-requires-2 t c = omega (arith, length_more c.args.x c.if-x-lt10.false, c.requires, c.put_decimal-next.ensures.next_is)

pub returns : goal.returns
returns t c = puts_tens c.args.x c.if-x-lt10.false c.requires c.put_decimal-next.ensures c.put_byte-2.ensures
