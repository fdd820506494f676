-- `checking::call::test_records` meets its contract: past the tests before it the cells are few enough to be looked through.
-- Assumes nothing.
use mathlib.Core.Path.{sym, ◌∙◌}
use Rattle.checking.proofs.Parts.{fit_room}
use Rattle.checking.proofs.Refused.{few_flags}
use Rattle.checking.proofs.call.test_records.Goals as goal

pub sound-requires : goal.sound-requires
sound-requires c =
    (few_flags _ _ c.in_ok-test_order.ensures, fit_room _ (sym c.fit_cells.ensures ∙ c.if-not-fit_cells.false), c.requires)
