-- A stretch can be folded at a bit in at most one way, as a fact kept in a struct must: its length fixes the number of flags.
-- Assumes nothing.
use mathlib.Core.Path.{◌≡◌, refl, sym, ap, ◌∙◌}
use mathlib.Core.HLevel.{is_prop→PathP}
use mathlib.Core.List.{List}
use Prim.Native.Nat.{ℕ, zero, suc, ◌^◌, ◌≤◌}
use native.Mathlib.Nat.{pow-suc, ℕ_set}
use native.Mathlib.Bridge.{le_prop}
use native.Mathlib.Omega.{arith}
use lib.ListN.{length}
use Rattle.ways.specs.Ways.{Foldable}

exponent : (a b : ℕ) → 2 ^ suc a ≡ 2 ^ suc b → a ≡ b
exponent zero zero e = refl
exponent zero (suc b) e = absurd (omega (arith, pow-suc 2 b, pow-suc 2 (suc b)))
exponent (suc a) zero e = absurd (omega (arith, pow-suc 2 a, pow-suc 2 (suc a)))
exponent (suc a) (suc b) e = ap suc (exponent a b (omega (arith, pow-suc 2 (suc a), pow-suc 2 (suc b))))

pub Foldable-prop : (s : List ℕ) (p : ℕ) → IsProp (Foldable s p)
Foldable-prop s p x y =
    let flags : x.flags ≡ y.flags = exponent _ _ (sym x.ways ∙ y.ways) in
    λ i. record {
      flags = flags i;
      ways = is_prop→PathP (λ j. length s ≡ 2 ^ suc (flags j)) (λ j. ℕ_set _ _) x.ways y.ways i;
      place = is_prop→PathP (λ j. p ≤ flags j) (λ j. le_prop) x.place y.place i;
      few = is_prop→PathP (λ j. flags j ≤ 9) (λ j. le_prop) x.few y.few i;
    }
