-- `replaying::log::tally_of` meets its contract: the snapshots before i are tallied.
-- Assumes nothing.
use native.Mathlib.Omega.{arith}
use Rattle.theory.proofs.Walks.{walk_lt}
use Rattle.replaying.proofs.Tested.{row_at}
use Rattle.replaying.proofs.Tallied.{none_tallied, counts, played_is, one_tallied, all_tallied}
use Rattle.replaying.proofs.log.tally_of.Goals as goal

pub loop-i-init : goal.loop-i-init
loop-i-init c = none_tallied _ _ _

pub overflow_cast-answer : goal.overflow_cast-answer
overflow_cast-answer c = omega (arith, c.descend-descent.ensures.end_value, walk_lt c.requires.0.smaller c.args.node c.two_at-row.result c.requires.0.node)

pub ticked-tally-requires : goal.ticked-tally-requires
ticked-tally-requires c =
    let at = c.loop-i in (
      counts _ _ _ at.i (omega (arith, c.loop-i-test.true)) at.invariant,
      omega (arith, played_is _ _ _ at.i (omega (arith, c.loop-i-test.true)) at.invariant, c.loop-i-test.true, c.requires.1),
      omega (arith, c.descend-descent.ensures.end_value, walk_lt c.requires.0.smaller c.args.node c.two_at-row.result c.requires.0.node),
    )

pub loop-i-preserved : goal.loop-i-preserved
loop-i-preserved c =
    let at = c.loop-i in
    let log = c.args.log.now in
    one_tallied _ _ _ at.i (omega (arith, c.loop-i-test.true)) at.invariant (row_at log at.i (omega (arith, c.loop-i-test.true)) c.two_at-row.ensures) c.descend-descent.ensures.end_value c.descend-descent.ensures.asked_value (omega (arith, c.descend-descent.ensures.end_value, walk_lt c.requires.0.smaller c.args.node c.two_at-row.result c.requires.0.node)) c.ticked-tally.ensures

pub returns : goal.returns
returns c =
    let at = c.loop-i in
    let a = c.args in
    all_tallied a.cells.now a.node a.log.now at.i _ at.last (omega (arith, c.loop-i-test.false)) at.invariant
