-- `record_index::index::enter` meets its contract: a link and a head.
-- Assumes nothing.
use native.Mathlib.Omega.{arith}
use Rattle.record_index.proofs.Chain.{index_entered}
use Rattle.record_index.proofs.index.enter.Goals as goal

pub returns : goal.returns
returns c =
    index_entered (omega arith) c.requires.2 c.flag_at.ensures c.low_at.ensures c.high_at.ensures c.hash-h.ensures.0
