-- The order that the first flags of all sets give, and what the search finds.
-- Assumes nothing.
use Rattle.std.specs.Prelude.{◌≡◌, ◌≢◌, List, ℕ, ◌-◌, ◌^◌, ◌≤◌, ◌<◌, length, get_or}
use Rattle.rule.specs.Bits.{bit}
use Rattle.rule.specs.Order.{packed, in_places}
use Rattle.theory.specs.Sets.{Follows}

-- o asks each flag of S once, at each step the one that `first` has for what is left
abbrev pub Asks : List ℕ → ℕ → List ℕ → Type 0
Asks first S o = Follows (λ (T : ℕ). get_or first T 0) S o

-- each set of flags below n has a flag of its own at its place
pub record Members (n : ℕ) (first : List ℕ) : Type 0 where
  pub few : n ≤ 10
  pub is : (S : ℕ) → S < 2 ^ n → S ≢ 0 → bit S (get_or first S 0) ≡ 1

-- the order, in its ten places, that asks all flags
pub record Followed (n : ℕ) (first places : List ℕ) : Type 0 where
  pub order : List ℕ
  pub asks : Asks first (2 ^ n - 1) order
  pub is : places ≡ in_places order

-- the packed order, found in a workspace whose cells may be what they like
pub record Searched (n : ℕ) (t w places y : List ℕ) : Type 0 where
  pub order : places ≡ in_places (packed n t)
  pub lent : length y ≡ length w
