-- Tests over lists and tables, that the definitions share. A test is a Bool, so that a definition can be computed.
-- Assumes nothing.
use Rattle.std.specs.Prelude.{Bool, true, false, ◌&&◌, ◌||◌, List, [], ◌∷◌, ℕ, eqb}

module _ {A : Type 0} where
  -- each member of the list passes the test
  unfoldable pub each : (A → Bool) → List A → Bool
  each p [] = true
  each p (x ∷ xs) = p x && each p xs

  abbrev pub add_if : Bool → A → List A → List A
  add_if true x xs = x ∷ xs
  add_if false x xs = xs

  -- the members that pass the test, in their sequence
  unfoldable pub keep : (A → Bool) → List A → List A
  keep p [] = []
  keep p (x ∷ xs) = add_if (p x) x (keep p xs)

-- two lists of numbers are equal
unfoldable pub same : List ℕ → List ℕ → Bool
same [] [] = true
same [] (y ∷ ys) = false
same (x ∷ xs) [] = false
same (x ∷ xs) (y ∷ ys) = eqb x y && same xs ys

-- the list t is one of the lists
unfoldable pub among : List ℕ → List (List ℕ) → Bool
among t [] = false
among t (u ∷ us) = same t u || among t us
