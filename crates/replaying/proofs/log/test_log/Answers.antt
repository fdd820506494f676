-- `replaying::log::test_log` meets its contract: none of the tests of the snapshots before i applies.
-- Assumes nothing.
use mathlib.Core.Path.{refl}
use Rattle.std.proofs.lemmas.Result.{err_from_is_err_and}
use Rattle.theory.proofs.Refused.{positive}
use Rattle.replaying.proofs.Tested.{row_at, here_refused, here_passed, all_tested}
use Rattle.replaying.proofs.log.test_log.Goals as goal

pub returns-in_err-test_row : goal.returns-in_err-test_row
returns-in_err-test_row c =
    let p = err_from_is_err_and c.from_residual.result c.from_residual.ensures.1 in
    rw (p.1, p.2) (here_refused _ _ _ _ c.loop-i.i c.loop-i-test.true (row_at c.args.log.now c.loop-i.i c.loop-i-test.true c.two_at-row.ensures) c.in_err-test_row.ensures c.loop-i.invariant (positive _))

pub loop-i-preserved : goal.loop-i-preserved
loop-i-preserved c =
    here_passed _ _ _ _ c.loop-i.i c.loop-i-test.true (row_at c.args.log.now c.loop-i.i c.loop-i-test.true c.two_at-row.ensures) c.in_ok-test_row.ensures c.loop-i.invariant refl

pub returns : goal.returns
returns c = all_tested _ _ _ _ c.loop-i.i c.loop-i-test.false c.loop-i.invariant
