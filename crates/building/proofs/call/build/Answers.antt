-- `building::call::build` meets its contract: what passed the tests fits.
-- Assumes nothing.
use mathlib.Core.Path.{sym, ◌∙◌}
use Rattle.building.proofs.Answer.{fits}
use Rattle.building.proofs.call.build.Goals as goal

pub fill-grown-requires : goal.fill-grown-requires
fill-grown-requires c =
    fits _ _ _ _ c.in_ok-test_table.ensures (sym c.fit_order.ensures ∙ c.if-not-fit_order.false) (sym c.fit_cells.ensures ∙ c.if-not-fit_cells.false)
