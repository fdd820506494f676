-- `way_index::hash` meets its contract: it is the definition, and a remainder by the number of heads.
-- Assumes nothing.
use mathlib.Core.Path.{refl}
use Rattle.way_index.specs.Index.{hash}
use Rattle.way_index.proofs.Chain.{hash_lt}
use Rattle.way_index.proofs.hash.Goals as goal

pub returns : goal.returns
unfolding hash
returns c = (refl, hash_lt _ _)
