-- What a loop over a list or over the numbers below n learns of a test of each: it fails where one fails. (That it holds where all hold is `at_each` and
-- `below_each` of Tests.antt.) And what a loop that counts those that pass has counted.
-- Assumes nothing.
use mathlib.Core.Path.{◌≡◌, refl, sym, ap, ◌∙◌}
use mathlib.Core.Bool.{Bool, true, false, true≢false}
use mathlib.Core.List.{List, [], ◌∷◌}
use Prim.Native.Nat.{ℕ, zero, suc, ◌+◌, ◌<◌}
use native.Mathlib.Nat.{le_of_suc-le-suc, not-suc-le-zero}
use native.Mathlib.Omega.{arith}
use lib.ListN.{length, get_or}
use Rattle.rule.specs.Bits.{from, below}
use Rattle.rule.specs.Tests.{each, add_if, keep}
use Rattle.theory.proofs.Member.{In, head, tail}
use Rattle.theory.proofs.Bits.{in_below}
use Rattle.theory.proofs.Tests.{each_in}

pub at_in : {A : Type 0} (none : A) (l : List A) (i : ℕ) → i < length l → In (get_or l i none) l
at_in none [] i h = absurd (not-suc-le-zero h)
at_in none (x ∷ l) zero h = head refl
at_in none (x ∷ l) (suc i) h = tail (at_in none l i (le_of_suc-le-suc h))

module _ (p : ℕ → Bool) where
  fails_in : {x : ℕ} (l : List ℕ) → In x l → p x ≡ false → each p l ≡ false
  fails_in l m f = go (each p l) refl
    where
      go : (b : Bool) → each p l ≡ b → each p l ≡ false
      go true e = absurd (true≢false (sym (each_in p l e m) ∙ f))
      go false e = e

  pub fails_at : (l : List ℕ) (i : ℕ) → i < length l → p (get_or l i 0) ≡ false → each p l ≡ false
  fails_at l i h f = fails_in l (at_in 0 l i h) f

  pub fails_below : (n k : ℕ) → k < n → p k ≡ false → each p (below n) ≡ false
  fails_below n k h f = fails_in (below n) (in_below h) f

-- ---- a count over the numbers below k

-- one more where the test passes
abbrev pub more : Bool → ℕ
more true = 1
more false = 0

counted-from : (p : ℕ → Bool) (a k : ℕ) → length (keep p (from a (suc k))) ≡ length (keep p (from a k)) + more (p (a + k))
unfolding keep from
counted-from p a zero = let e : a + 0 ≡ a = omega arith in rw e (go (p a))
  where
    go : (b : Bool) → length (add_if b a []) ≡ 0 + more b
    go true = refl
    go false = refl
counted-from p a (suc k) = go (p a) (counted-from p (suc a) k)
  where
    go : (b : Bool) → length (keep p (from (suc a) (suc k))) ≡ length (keep p (from (suc a) k)) + more (p (suc a + k))
        → length (add_if b a (keep p (from (suc a) (suc k)))) ≡ length (add_if b a (keep p (from (suc a) k))) + more (p (a + suc k))
    go true e = let q : suc a + k ≡ a + suc k = omega arith in omega (arith, e, ap (λ (x : ℕ). more (p x)) q)
    go false e = let q : suc a + k ≡ a + suc k = omega arith in omega (arith, e, ap (λ (x : ℕ). more (p x)) q)

pub counted : (p : ℕ → Bool) (k : ℕ) → length (keep p (below (k + 1))) ≡ length (keep p (below k)) + more (p k)
counted p k =
    let e : k + 1 ≡ suc k = omega arith in
    let z : 0 + k ≡ k = omega arith in
    ap (λ (x : ℕ). length (keep p (below x))) e ∙ counted-from p 0 k ∙ ap (λ (x : ℕ). length (keep p (below k)) + more (p x)) z
