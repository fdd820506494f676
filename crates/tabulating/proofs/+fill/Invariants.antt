-- `tabulating::fill` meets its contract: the measure is the number of flags left in the order, and each step is one of Halves.antt.
-- Assumes nothing.
use Prim.Native.Nat.{◌-◌}
use Rattle.tabulating.proofs.+fill.Given as goal

abbrev pub decreases-fill : goal.decreases-fill
decreases-fill l = l.n - l.at
