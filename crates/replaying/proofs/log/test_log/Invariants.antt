-- `replaying::log::test_log` meets its contract: none of the tests of the snapshots before i applies.
-- Assumes nothing.
use Rattle.replaying.proofs.Tested.{Tested}
use Rattle.replaying.proofs.log.test_log.Given as goal

abbrev pub invariant-loop-i : goal.invariant-loop-i
invariant-loop-i l = Tested l.n l.cells l.pass l.log l.i
