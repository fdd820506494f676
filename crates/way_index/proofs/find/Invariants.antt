-- `way_index::find` meets its contract: the chain of the hash passes every first way that can have the codes of way i.
-- Assumes nothing.
use Rattle.way_index.proofs.Chain.{Searched}
use Rattle.way_index.proofs.find.Given as goal

abbrev pub invariant-loop-at : goal.invariant-loop-at
invariant-loop-at l = Searched l.halves.source.now l.halves.p l.i l.at

abbrev pub decreases-loop-at : goal.decreases-loop-at
decreases-loop-at l = l.at
