-- `joining::nodes::join_nodes` meets its contract: the measure is the number of flags left in the order, and each step is one of Joined.antt and Down.antt.
-- Assumes nothing.
use Prim.Native.Nat.{◌-◌}
use Rattle.joining.proofs.nodes.+join_nodes.Given as goal

abbrev pub decreases-join_nodes : goal.decreases-join_nodes
decreases-join_nodes l = l.levels.n - l.at
