-- `costing::asking_cost` meets its contract: both counts have room in 32 bits.
-- Assumes nothing.
use native.Mathlib.Omega.{arith}
use Rattle.costing.proofs.Choices.{nodes_few, asking_cost_is, counts_most}
use Rattle.costing.proofs.asking_cost.Goals as goal

pub overflow_cast-nodes : goal.overflow_cast-nodes
overflow_cast-nodes c = omega (arith, c.count-asking.ensures.nodes_are, nodes_few c.args.halves.foldable c.args.codes.now c.requires.1)

pub overflow_mul-result : goal.overflow_mul-result
overflow_mul-result c = omega (arith, c.count-asking.ensures.nodes_are, nodes_few c.args.halves.foldable c.args.codes.now c.requires.1)

pub overflow_add-result : goal.overflow_add-result
overflow_add-result c = omega (arith, counts_most c.args.halves.foldable c.count-asking.ensures c.size_of.ensures c.requires.1)

-- what is handed back, and its bound
pub returns : goal.returns
returns c = asking_cost_is c.args.halves.foldable c.count-asking.ensures c.size_of.ensures
