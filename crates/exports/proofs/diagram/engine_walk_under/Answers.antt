-- `exports::diagram::engine_walk_under` meets its contract: it is walk's, under that pass rule.
-- Assumes nothing.
use Rattle.exports.proofs.diagram.engine_walk_under.Goals as goal

pub returns : goal.returns
returns c = c.walk.ensures
