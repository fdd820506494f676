-- `runs::aligned::digits` meets its contract: the measure is the number, which has one digit more than its tenth.
-- Assumes nothing.
use mathlib.Core.Path.{sym}
use Prim.Native.Nat.{◌/◌}
use native.Mathlib.Omega.{arith}
use Rattle.runs.proofs.Digits.{length_one, length_more, digits_fit}
use Rattle.runs.proofs.aligned.+digits.Goals as goal

pub returns-then-x-lt10 : goal.returns-then-x-lt10
returns-then-x-lt10 t c = sym (length_one _ c.if-x-lt10.true)

pub digits-requires : goal.digits-requires
digits-requires t c = (omega (arith, c.decreases, c.if-x-lt10.false), tt)

pub overflow_add-result : goal.overflow_add-result
overflow_add-result t c = omega (arith, c.digits.ensures, digits_fit (c.args.x / 10) (omega arith))

pub returns : goal.returns
returns t c = omega (arith, c.digits.ensures, length_more c.args.x c.if-x-lt10.false)
