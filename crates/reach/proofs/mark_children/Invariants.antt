-- `reach::mark_children` meets its contract: the children of the records passed are marked.
-- Assumes nothing.
use Rattle.reach.specs.Mark.{Marked}
use Rattle.reach.proofs.mark_children.Given as goal

abbrev pub invariant-loop-j : goal.invariant-loop-j
invariant-loop-j l = Marked l.cells l.j l.marks
