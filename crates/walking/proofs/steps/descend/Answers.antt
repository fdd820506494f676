-- `walking::steps::descend` meets its contract: the walk goes on from the node that is reached, whose number falls, and the flags asked so far are those before it.
-- Assumes nothing.
use native.Mathlib.Omega.{arith}
use Rattle.walking.proofs.Walked.{starts, ends, child_steps, next_smaller, count_lt, goes_on}
use Rattle.walking.proofs.steps.descend.Goals as goal

pub loop-m-init : goal.loop-m-init
loop-m-init c = (c.requires.node, starts _ _ _ (omega arith) (omega arith))

pub overflow_add-count : goal.overflow_add-count
overflow_add-count c = omega (arith, count_lt (child_steps c.requires c.loop-m-test.true c.loop-m.invariant.0 c.flag_at-flag.ensures c.bit-value.ensures c.child-m.ensures) c.loop-m.invariant.1)

pub loop-m-preserved : goal.loop-m-preserved
loop-m-preserved c =
    let at = c.loop-m in
    (omega (arith, next_smaller (child_steps c.requires c.loop-m-test.true c.loop-m.invariant.0 c.flag_at-flag.ensures c.bit-value.ensures c.child-m.ensures), at.invariant.0), goes_on (child_steps c.requires c.loop-m-test.true c.loop-m.invariant.0 c.flag_at-flag.ensures c.bit-value.ensures c.child-m.ensures) at.invariant.1 c.set_bit-asked.ensures)

pub returns : goal.returns
returns c = let (end, asked, count) = ends c.loop-m.invariant.1 (omega (arith, c.loop-m-test.false)) in record { end_value = end; asked_value = asked; count_value = count }
