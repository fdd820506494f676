-- `record_index::index::find` meets its contract: the chain of the hash passes every record that can be the one looked for.
-- Assumes nothing.
use Rattle.record_index.proofs.Chain.{Searched}
use Rattle.record_index.proofs.index.find.Given as goal

abbrev pub invariant-loop-at : goal.invariant-loop-at
invariant-loop-at l = Searched l.cells l.used l.flag l.low l.high l.at

abbrev pub decreases-loop-at : goal.decreases-loop-at
decreases-loop-at l = l.at
