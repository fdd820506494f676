-- `fixing::nodes::fix_node` meets its contract: the measure is the number of flags left in the order, and each step is one of Fixed.antt and Down.antt.
-- Assumes nothing.
use Prim.Native.Nat.{◌-◌}
use Rattle.fixing.proofs.nodes.+fix_node.Given as goal

abbrev pub decreases-fix_node : goal.decreases-fix_node
decreases-fix_node l = l.levels.n - l.at
