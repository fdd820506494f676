-- `building::call::fill` meets its contract: the drawing is the one of Held.antt, and its records are put in sequence where there is room.
-- Assumes nothing.
use mathlib.Core.Path.{sym, ◌∙◌}
use Rattle.record_index.proofs.Chain.{index_none}
use Rattle.building.proofs.Held.{begin, end_full, end_found}
use Rattle.building.proofs.call.fill.Goals as goal

pub draw-grown-requires : goal.draw-grown-requires
draw-grown-requires c = (begin c.requires, index_none _)

pub returns-then-is_some : goal.returns-then-is_some
returns-then-is_some c = end_found c.requires c.draw-grown.ensures.0 _ _ (sym c.is_some.ensures ∙ c.if-is_some.true) c.sequence.ensures

pub returns-else-is_some : goal.returns-else-is_some
returns-else-is_some c = end_full c.requires c.draw-grown.ensures.0 (sym c.is_some.ensures ∙ c.if-is_some.false)
