-- Sound cells and their shape.
-- Assumes nothing.
use mathlib.Core.Path.{◌≡◌}
use mathlib.Core.Bool.{true}
use mathlib.Core.List.{List}
use Prim.Native.Nat.{ℕ}
use lib.ListN.{replicate}
use Rattle.rule.specs.Sound.{sound}
use Rattle.theory.specs.Shape.{Shaped}
use Rattle.theory.proofs.Shape.{shape_view, view_shape, shape_cleared}

module _ (n : ℕ) (order c : List ℕ) (used : ℕ) where
  -- sound cells have the shape
  pub sound_shape : sound n order c used ≡ true → Shaped n order c used
  unfolding sound
  sound_shape e = shape_view n order c used e

  -- and that is all
  pub shape_sound : Shaped n order c used → sound n order c used ≡ true
  unfolding sound
  shape_sound s = view_shape n order c used s

-- cleared cells are sound, with no record used
pub sound_cleared : (n : ℕ) (order : List ℕ) (k : ℕ) → sound n order (replicate k 0) 0 ≡ true
sound_cleared n order k = shape_sound n order (replicate k 0) 0 (shape_cleared n order k)
