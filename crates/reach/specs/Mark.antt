-- Marks for records: which of them are children.
-- Assumes nothing.
use Rattle.std.specs.Prelude.{◌≡◌, ◌⊎◌, ◌↔◌, cond, Bool, true, false, List, ℕ, ◌+◌, ◌<◌, length, get_or, set}
use Rattle.rule.specs.Cells.{most_records, low_at, high_at, record_of, is_end}

-- the marks with that of a node's record; an end node has none
unfoldable pub mark : List Bool → ℕ → List Bool
mark marks m = cond (is_end m) marks (set marks (record_of m) true)

-- one of the first `used` records has record k for a child
abbrev pub IsChild : List ℕ → ℕ → ℕ → Type 0
IsChild c used k = (j : ℕ) × (j < used) × ((low_at c j ≡ k + 2) ⊎ (high_at c j ≡ k + 2))

-- the marked records are the children of the first `used` records
pub record Marked (c : List ℕ) (used : ℕ) (marks : List Bool) : Type 0 where
  pub lent : length marks ≡ most_records
  pub is : (k : ℕ) → (get_or marks k false ≡ true) ↔ ((k < most_records) × IsChild c used k)
