-- `provoking::search::lowest` meets its contract: the measure is the number of flags left in the order, and each return is a step of Halves.antt. (That what is found
-- is at most 1,024 goes into the bounds, so that a search that takes 1 before 0 fails by its row.)
-- Assumes nothing.
use Prim.Native.Nat.{◌-◌}
use Rattle.provoking.proofs.search.+lowest.Given as goal

abbrev pub decreases-lowest : goal.decreases-lowest
decreases-lowest l = l.n - l.at
