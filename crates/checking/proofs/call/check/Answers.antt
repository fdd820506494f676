-- `checking::call::check` meets its contract: past the first tests the cells are taken.
-- Assumes nothing.
use native.Mathlib.Omega.{arith}
use Rattle.checking.proofs.Parts.{fit_room, sound_room, sound_smaller}
use Rattle.checking.proofs.Refused.{rows_passed}
use Rattle.checking.proofs.call.check.Goals as goal

pub overflow_add-used : goal.overflow_add-used
overflow_add-used c =
    let t = rows_passed _ _ _ _ c.in_ok-test_records.ensures.0 in
    omega (arith, fit_room _ t.lent, sound_room _ _ _ _ t.is_sound)

pub all_reached-requires : goal.all_reached-requires
all_reached-requires c =
    let t = rows_passed _ _ _ _ c.in_ok-test_records.ensures.0 in
    (sound_room _ _ _ _ t.is_sound, fit_room _ t.lent, sound_smaller _ _ _ _ t.is_sound, c.if-used-node.false)
