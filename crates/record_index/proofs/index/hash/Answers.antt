-- `record_index::index::hash` meets its contract: it is the definition, and a remainder by the number of heads.
-- Assumes nothing.
use mathlib.Core.Path.{refl}
use Rattle.record_index.specs.Index.{hash}
use Rattle.record_index.proofs.Chain.{hash_lt}
use Rattle.record_index.proofs.index.hash.Goals as goal

pub returns : goal.returns
unfolding hash
returns c = (refl, hash_lt _ _ _)
