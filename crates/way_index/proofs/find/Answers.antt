-- `way_index::find` meets its contract: the chain of the hash passes every first way that can have the codes of way i.
-- Assumes nothing.
use native.Mathlib.Omega.{arith}
use Rattle.ways.proofs.Insert.{way_few}
use Rattle.way_index.proofs.Chain.{searched_none}
use Rattle.way_index.proofs.find.Goals as goal

pub bounds-index-k : goal.bounds-index-k
bounds-index-k c =
    omega (arith, c.loop-at.invariant.within, way_few c.args.halves.foldable _ c.requires.0)

pub returns : goal.returns
returns c = searched_none c.loop-at.invariant c.loop-at-test.false
