-- How a store grows: older records stay as they are, and each new record's table is one that the result calls for.
-- Assumes nothing.
use Rattle.std.specs.Prelude.{◌≡◌, ℕ, ◌+◌, ◌*◌, ◌≤◌, ◌<◌, length, get_or}
use mathlib.Core.List.{List, Memᴰ}
use Rattle.rule.specs.Cells.{width}
use Rattle.rule.specs.Walk.{table_of}
use Rattle.theory.specs.Shape.{Shaped}

-- the cells d with `more` records have grown from c with `used`
pub record Grows (n : ℕ) (order : List ℕ) (goal : List (List ℕ)) (c : List ℕ) (used : ℕ) (d : List ℕ) (more : ℕ) : Type 0 where
  pub lent : length d ≡ length c
  pub is_sound : Shaped n order d more
  pub grown : used ≤ more
  pub old : (i : ℕ) → i < used * width → get_or d i 0 ≡ get_or c i 0
  pub within : (k : ℕ) → used ≤ k → k < more → Memᴰ (table_of n d (k + 2)) goal
