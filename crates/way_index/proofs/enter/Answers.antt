-- `way_index::enter` meets its contract: a link and a head.
-- Assumes nothing.
use native.Mathlib.Omega.{arith}
use Rattle.ways.proofs.Insert.{way_few}
use Rattle.way_index.proofs.Chain.{index_entered}
use Rattle.way_index.proofs.enter.Goals as goal

pub bounds-index-i : goal.bounds-index-i
bounds-index-i c = omega (arith, way_few c.args.halves.foldable _ c.requires.0)

pub returns : goal.returns
returns c =
    let s = c.requires in
    index_entered (way_few c.args.halves.foldable _ s.0) s.2 s.1 c.code_at-low.ensures c.code_at-high.ensures c.hash-h.ensures.0
