-- The rising order, named place by place.
-- Assumes nothing.
use mathlib.Core.Path.{◌≡◌, refl, sym, ap, ◌∙◌}
use mathlib.Core.Logic.{inl, inr}
use mathlib.Core.List.{List, ◌∷◌, ◌++◌}
use Prim.Native.Nat.{ℕ, zero, suc, ◌+◌, ◌≤◌, ◌<◌, min}
use native.Mathlib.Numerals.{add-one}
use native.Mathlib.Omega.{arith}
use lib.ListN.{take, set, replicate}
use Rattle.std.proofs.Math.Nat.{min-eq_left, min-eq_right}
use Rattle.std.proofs.lemmas.Bool.{cases_lt}
use Rattle.rule.specs.Bits.{from}
use Rattle.rule.specs.Order.{places, rising}
use Rattle.rule.proofs.Zeros.{take-zeros}

-- in m places, with k zeros behind the flags that are named
named_more : (a i v m k : ℕ) → v ≡ a + i → i < m → m ≤ k → set (take m (from a i ++ replicate k 0)) i v ≡ take m (from a (suc i) ++ replicate k 0)
unfolding from
named_more a i v zero k e h g = absurd (omega arith)
named_more a zero v (suc m) zero e h g = absurd (omega arith)
named_more a zero v (suc m) (suc k) e h g =
    let v-is : v ≡ a = omega arith in
    rw (v-is, take-zeros m k (omega arith), take-zeros m (suc k) (omega arith))
named_more a (suc i) v (suc m) k e h g = ap (λ (l : List ℕ). a ∷ l) (named_more (suc a) i v m k (omega arith) (omega arith) (omega arith))

named_most : (a m n : ℕ) (l : List ℕ) → m ≤ n → take m (from a n ++ l) ≡ from a m
unfolding from
named_most a zero n l h = refl
named_most a (suc m) zero l h = absurd (omega arith)
named_most a (suc m) (suc n) l h = ap (λ (l : List ℕ). a ∷ l) (named_most (suc a) m n l (omega arith))

-- one flag more at its place
pub rising-more : (i : ℕ) → i < places → set (rising i) i i ≡ rising (i + 1)
rising-more i h = rw add-one (named_more 0 i i places places (omega arith) h (omega arith))

-- past ten flags there is no place more
pub rising_most : (n : ℕ) → places ≤ n → rising places ≡ rising n
rising_most n h = named_most 0 places places _ (omega arith) ∙ sym (named_most 0 places n _ h)

pub rising_within : (n : ℕ) → rising (min n places) ≡ rising n
rising_within n =
    elim (cases_lt n places) [
      | inl h ↦ ap rising (min-eq_left {n = n} {m = places} (omega arith))
      | inr h ↦ ap rising (min-eq_right {n = places} {m = n} h) ∙ rising_most n h
    ]
