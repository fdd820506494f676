-- `stretches::starts` meets its contract: the next stretch starts behind those of the sets passed.
-- Assumes nothing.
use Rattle.stretches.proofs.Starting.{Starting}
use Rattle.stretches.proofs.starts.Given as goal

abbrev pub invariant-loop-set : goal.invariant-loop-set
invariant-loop-set l = Starting l.n l.starts l.at l.set
