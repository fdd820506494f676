-- `searching::recursion::search` meets its contract: the sets before place i of the list are solved.
-- Assumes nothing.
use Rattle.searching.proofs.Searching.{Searching}
use Rattle.searching.proofs.recursion.search.Given as goal

abbrev pub invariant-loop-i : goal.invariant-loop-i
invariant-loop-i l = Searching l.n l.table l.initial.workspace l.workspace l.least l.first l.i
