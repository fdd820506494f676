-- `writing::call::test_write` meets its contract: where check passes it, the writer's own rows.
-- Assumes nothing.
use mathlib.Core.List.{[], ◌∷◌}
use Rattle.writing.proofs.Written.{own_passes}
use Rattle.writing.proofs.call.test_write.Goals as goal

pub returns : goal.returns
returns c =
    let a = c.args in
    own_passes a.n a.order.places a.cells.now a.used a.root.number a.label.now a.bytes.now (c.in_ok-check.field-0 ∷ [])
    c.in_ok-check.ensures c.well_formed.1.0.1.1.0.1.0.1 c.test_own.ensures
