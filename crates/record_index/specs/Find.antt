-- What a search for a record finds.
-- Assumes nothing.
use Rattle.std.specs.Prelude.{◌≡◌, List, ℕ, ◌<◌, Option, Some, None as Nothing}
use Rattle.rule.specs.Cells.{flag_at, low_at, high_at}

-- record k has this flag and these children
pub record Is (c : List ℕ) (k flag low high : ℕ) : Type 0 where
  pub flag_is : flag_at c k ≡ flag
  pub low_is : low_at c k ≡ low
  pub high_is : high_at c k ≡ high

-- none of the first n records has them
abbrev pub None : List ℕ → ℕ → ℕ → ℕ → ℕ → Type 0
None c n flag low high = (k : ℕ) → k < n → Is c k flag low high → ⊥

-- what is found is a used record that has them, or nothing where none is. (In sound cells there is one at most.)
abbrev pub Finds : List ℕ → ℕ → ℕ → ℕ → ℕ → Option ℕ → Type 0
Finds c used flag low high (Some k) = (k < used) × Is c k flag low high
Finds c used flag low high Nothing = None c used flag low high
