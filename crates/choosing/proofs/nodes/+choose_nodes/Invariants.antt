-- `choosing::nodes::choose_nodes` meets its contract: the measure is the number of flags left in the order, and each step is one of Chosen.antt and Down.antt.
-- Assumes nothing.
use Prim.Native.Nat.{◌-◌}
use Rattle.choosing.proofs.nodes.+choose_nodes.Given as goal

abbrev pub decreases-choose_nodes : goal.decreases-choose_nodes
decreases-choose_nodes l = l.levels.n - l.at
