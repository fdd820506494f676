-- `folding::fold` meets its contract: the ways passed have their codes, and the first of them are entered in the index.
-- Assumes nothing.
use lib.ListN.{length}
use Rattle.folding.proofs.Folding.{Folding}
use Rattle.folding.proofs.fold.Given as goal

abbrev pub invariant-loop-i : goal.invariant-loop-i
invariant-loop-i l = Folding l.halves.source.now l.halves.p (length l.initial.stretch) l.stretch l.index l.i
