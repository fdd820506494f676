-- `drawing::tree::draw` meets its contract: the measure is the number of flags that are left, and each step is one of Branches.antt.
-- Assumes nothing.
use Prim.Native.Nat.{◌-◌}
use Rattle.drawing.proofs.tree.+draw.Given as goal

abbrev pub decreases-draw : goal.decreases-draw
decreases-draw l = l.n - l.at
