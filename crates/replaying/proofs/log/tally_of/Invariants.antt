-- `replaying::log::tally_of` meets its contract: the snapshots before i are tallied.
-- Assumes nothing.
use Rattle.replaying.proofs.Tallied.{Tallied}
use Rattle.replaying.proofs.log.tally_of.Given as goal

abbrev pub invariant-loop-i : goal.invariant-loop-i
invariant-loop-i l = Tallied l.cells l.node l.log l.i l.tally l.last
