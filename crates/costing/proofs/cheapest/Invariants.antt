-- `costing::cheapest` meets its contract: of the set's flags passed, the one in hand is the smallest that costs least.
-- Assumes nothing.
use Rattle.costing.specs.Choice.{CheapestBelow}
use Rattle.costing.proofs.cheapest.Given as goal

abbrev pub invariant-loop-u : goal.invariant-loop-u
invariant-loop-u l = CheapestBelow l.u l.n l.workspace l.least l.set l.cost l.flag
