-- The constant table's one computed test, and what it proves (document 01, "Where each form goes"): "each set occurs once, sizes rising, subsets before
-- supersets".
-- Assumes nothing.
use Rattle.std.specs.Prelude.{◌≡◌, Bool, true, ◌&&◌, ◌≢◌, List, [], ◌∷◌, ℕ, ◌+◌, ◌*◌, ◌≤◌, ◌<◌, ltb, eqb, length, get_or}
use Rattle.std.specs.Int.Bits.{bit_and}
use Rattle.rule.specs.Tests.{each}
use Rattle.rule.specs.Sets.{set_size, sets}

-- what the list rises by: a set's size, and then its number
unfoldable pub key : ℕ → ℕ
key x = set_size x * 1024 + x

-- each key is below the next
abbrev pub climbs : List ℕ → Bool
climbs [] = true
climbs (x ∷ []) = true
climbs (x ∷ y ∷ l) = ltb (key x) (key y) && climbs (y ∷ l)

-- 1,024 sets of ten flags, by rising size and then rising number
abbrev pub test : List ℕ → Bool
test l = eqb (length l) 1024 && (each (λ x. ltb x 1024) l && climbs l)

pub record InSequence (l : List ℕ) : Type 0 where
  -- each set of ten flags occurs
  pub occurs : (x : ℕ) → x < 1024 → (i : ℕ) × (i < 1024) × (get_or l i 0 ≡ x)
  -- and at one place alone
  pub once : (i j : ℕ) → i < 1024 → j < 1024 → get_or l i 0 ≡ get_or l j 0 → i ≡ j
  -- sizes rise
  pub sizes : (i j : ℕ) → i ≤ j → j < 1024 → set_size (get_or l i 0) ≤ set_size (get_or l j 0)
  -- and a proper subset of a set stands before it
  pub subsets : (i x : ℕ) → i < 1024 → x < 1024 → bit_and x (get_or l i 0) ≡ x → x ≢ get_or l i 0 → (j : ℕ) × (j < i) × (get_or l j 0 ≡ x)

-- what passes the test is in sequence, and is the definition's list: so the one test of the constant table tells it all
abbrev pub TestTells : Type 0
TestTells = (l : List ℕ) → test l ≡ true → InSequence l × (l ≡ sets)
