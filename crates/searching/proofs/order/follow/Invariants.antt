-- `searching::order::follow` meets its contract: with each place one flag less is left to be asked.
-- Assumes nothing.
use Rattle.searching.proofs.Following.{Following}
use Rattle.searching.proofs.order.follow.Given as goal

abbrev pub invariant-loop-i : goal.invariant-loop-i
invariant-loop-i l = Following l.n l.first l.places l.set l.i
