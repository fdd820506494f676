-- Flags that are fixed by two sets: what the tests of them say, flag by flag.
-- Assumes nothing.
use mathlib.Core.Path.{◌≡◌, refl, sym, ap, ◌∙◌}
use mathlib.Core.Bool.{Bool, true, false, not, ◌||◌}
use Prim.Native.Nat.{ℕ, ◌<◌}
use borrow.Author.Tests.{eqb-true, eq-eqb}
use lib.Dec.{eqb}
use Rattle.rule.specs.Bits.{bit}
use Rattle.rule.specs.Provoke.{has_fixed, ones_fixed}
use Rattle.theory.proofs.Tests.{each_below, below_each}
use Rattle.theory.proofs.Scan.{fails_below}

-- where x is 1, y is z
then_same : (x y z : ℕ) → (not (eqb x 1) || eqb y z) ≡ true → x ≡ 1 → y ≡ z
then_same x y z e one = eqb-true y z (sym (ap (λ (b : Bool). not b || eqb y z) (eq-eqb x 1 one)) ∙ e)

same_then : (x y z : ℕ) → (x ≡ 1 → y ≡ z) → (not (eqb x 1) || eqb y z) ≡ true
same_then x y z f = go (eqb x 1) refl
  where
    go : (b : Bool) → eqb x 1 ≡ b → (not b || eqb y z) ≡ true
    go true e = eq-eqb y z (f (eqb-true x 1 e))
    go false e = refl

module _ (fixed ones row : ℕ) where
  pub fixed_values : has_fixed fixed ones row ≡ true → (i : ℕ) → i < 10 → bit fixed i ≡ 1 → bit row i ≡ bit ones i
  unfolding has_fixed
  fixed_values e i h = then_same (bit fixed i) (bit row i) (bit ones i) (each_below (λ i. not (eqb (bit fixed i) 1) || eqb (bit row i) (bit ones i)) 10 e i h)

  pub values_fixed : ((i : ℕ) → i < 10 → bit fixed i ≡ 1 → bit row i ≡ bit ones i) → has_fixed fixed ones row ≡ true
  unfolding has_fixed
  values_fixed f =
      below_each (λ i. not (eqb (bit fixed i) 1) || eqb (bit row i) (bit ones i)) 10 (λ i h. same_then (bit fixed i) (bit row i) (bit ones i) (f i h))

-- no 1 stands outside the fixed set
module _ (fixed ones : ℕ) where
  pub each_fixed : ones_fixed fixed ones ≡ true → (i : ℕ) → i < 10 → bit ones i ≡ 1 → bit fixed i ≡ 1
  unfolding ones_fixed
  each_fixed e i h = then_same (bit ones i) (bit fixed i) 1 (each_below (λ i. not (eqb (bit ones i) 1) || eqb (bit fixed i) 1) 10 e i h)

  pub fixed_each : ((i : ℕ) → i < 10 → bit ones i ≡ 1 → bit fixed i ≡ 1) → ones_fixed fixed ones ≡ true
  unfolding ones_fixed
  fixed_each f = below_each (λ i. not (eqb (bit ones i) 1) || eqb (bit fixed i) 1) 10 (λ i h. same_then (bit ones i) (bit fixed i) 1 (f i h))

  -- one does
  pub one_outside : (i : ℕ) → i < 10 → bit ones i ≡ 1 → bit fixed i ≡ 0 → ones_fixed fixed ones ≡ false
  unfolding ones_fixed
  one_outside i h one none = fails_below (λ i. not (eqb (bit ones i) 1) || eqb (bit fixed i) 1) 10 i h (rw (one, none))
