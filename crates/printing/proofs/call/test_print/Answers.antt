-- `printing::call::test_print` meets its contract: where check passes it, the test of the lent bytes.
-- Assumes nothing.
use mathlib.Core.List.{[], ◌∷◌}
use Rattle.printing.proofs.Sheets.{own_passes}
use Rattle.printing.proofs.call.test_print.Goals as goal

pub returns : goal.returns
returns c =
    let a = c.args in
    own_passes a.n a.order.places a.cells.now a.used a.root.number a.bytes.now (c.in_ok-check.field-0 ∷ []) c.in_ok-check.ensures c.test_bytes.ensures
