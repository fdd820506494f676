-- The numbers of a tally's ten flags, one by one.
-- Assumes nothing.
use mathlib.Core.Path.{◌≡◌, refl, sym, ap, ◌∙◌}
use mathlib.Core.List.{List, [], ◌∷◌, map}
use Prim.Native.Nat.{ℕ, zero, suc}
use lib.ListN.{length, get_or}
use Rattle.rule.specs.Bits.{from}

shifted : (f : ℕ → ℕ) (a n : ℕ) → map f (from (suc a) n) ≡ map (λ i. f (suc i)) (from a n)
unfolding from
shifted f a zero = refl
shifted f a (suc n) = ap (λ (l : List ℕ). f (suc a) ∷ l) (shifted f (suc a) n)

by_index : (l : List ℕ) → l ≡ map (λ i. get_or l i 0) (from 0 (length l))
unfolding from
by_index [] = refl
by_index (x ∷ l) = ap (λ (k : List ℕ). x ∷ k) (by_index l ∙ sym (shifted (λ i. get_or (x ∷ l) i 0) 0 (length l)))

pub ten_numbers : (l : List ℕ) → length l ≡ 10 → l ≡ map (λ i. get_or l i 0) (0 ∷ 1 ∷ 2 ∷ 3 ∷ 4 ∷ 5 ∷ 6 ∷ 7 ∷ 8 ∷ 9 ∷ [])
unfolding from
ten_numbers l e = by_index l ∙ ap (λ (n : ℕ). map (λ i. get_or l i 0) (from 0 n)) e
