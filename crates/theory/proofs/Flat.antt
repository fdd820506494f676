-- Lists one behind the other: the kit's `flat_map`.
-- Assumes nothing.
use mathlib.Core.Path.{◌≡◌, refl, sym, ap, ◌∙◌}
use mathlib.Core.Logic.{inl, inr}
use mathlib.Core.List.{List, [], ◌∷◌, ◌++◌, flat_map, append_assoc, append-nil}
use Prim.Native.Nat.{ℕ, ◌+◌, ◌*◌}
use native.Mathlib.Omega.{arith}
use lib.ListN.{length, length-append}
use Rattle.rule.specs.Bits.{below}
use Rattle.theory.proofs.Bits.{from_next}
use Rattle.theory.proofs.Member.{In, head, tail, not-nil, append_cases}

module _ {A B : Type 0} (f : A → List B) where
  pub flat_append : (l m : List A) → flat_map f (l ++ m) ≡ flat_map f l ++ flat_map f m
  unfolding flat_map
  flat_append [] m = refl
  flat_append (x ∷ l) m = ap (λ (r : List B). f x ++ r) (flat_append l m) ∙ sym (append_assoc (f x) (flat_map f l) (flat_map f m))

  flat_one : (x : A) → flat_map f (x ∷ []) ≡ f x
  unfolding flat_map
  flat_one x = append-nil (f x)

  -- one more behind them
  pub flat_behind : (l : List A) (x : A) → flat_map f (l ++ (x ∷ [])) ≡ flat_map f l ++ f x
  flat_behind l x = flat_append l (x ∷ []) ∙ ap (λ (r : List B). flat_map f l ++ r) (flat_one x)

  -- all of one length
  pub flat_length : (w : ℕ) (l : List A) → ((x : A) → In x l → length (f x) ≡ w) → length (flat_map f l) ≡ length l * w
  unfolding flat_map
  flat_length w [] h = omega arith
  flat_length w (x ∷ l) h =
      length-append (f x) (flat_map f l) ∙ omega (arith, h x (head refl), flat_length w l (λ y m. h y (tail m)))

  -- a member stands in one of the parts
  pub flat_in : (l : List A) {y : B} → In y (flat_map f l) → (x : A) × In x l × In y (f x)
  unfolding flat_map
  flat_in [] m = absurd (not-nil m)
  flat_in (x ∷ l) m = elim (append_cases (f x) m) [ inl p ↦ (x, head refl, p) | inr q ↦ let (z, i, p) = flat_in l q in (z, tail i, p) ]

-- the numbers below one more
pub flat_next : {B : Type 0} (f : ℕ → List B) (k : ℕ) → flat_map f (below (k + 1)) ≡ flat_map f (below k) ++ f k
flat_next f k = let e : 0 + k ≡ k = omega arith in ap (flat_map f) (from_next 0 k ∙ rw e) ∙ flat_behind f (below k) k
