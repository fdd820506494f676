-- `checking::call::is_diagram` meets its contract: sound cells, and then reach.
-- Assumes nothing.
use mathlib.Core.Path.{sym, ◌∙◌}
use borrow.Author.Tests.{le-leb}
use Rattle.rule.specs.Diagram.{diagram}
use Rattle.checking.proofs.Parts.{sound_room, sound_smaller}
use Rattle.checking.proofs.call.is_diagram.Goals as goal

pub all_reached-requires : goal.all_reached-requires
all_reached-requires c =
    let p = c.requires in
    let s = sym c.sound.ensures.0 ∙ c.if-sound.true in
    (sound_room _ _ _ _ s, p.1, sound_smaller _ _ _ _ s, p.2)

pub returns-then-sound : goal.returns-then-sound
unfolding diagram
returns-then-sound c =
    let s = sym c.sound.ensures.0 ∙ c.if-sound.true in
    c.all_reached.ensures ∙ rw (s, le-leb _ _ c.requires.2)

pub returns-else-sound : goal.returns-else-sound
unfolding diagram
returns-else-sound c = c.if-sound.false ∙ rw (sym c.sound.ensures.0 ∙ c.if-sound.false)
