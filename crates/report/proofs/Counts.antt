-- The records that ask a flag, counted one by one; and what is kept of a list, counted.
-- Assumes nothing.
use mathlib.Core.Path.{◌≡◌, refl, sym, ap, ◌∙◌}
use mathlib.Core.Bool.{Bool, true, false, cond}
use mathlib.Core.List.{List, ◌∷◌}
use Prim.Native.Nat.{ℕ, ◌+◌}
use native.Mathlib.Nat.{add-zero}
use native.Mathlib.Decide.{ℕ_discrete}
use native.Mathlib.Omega.{arith}
use borrow.Author.Tests.{eq-eqb, ne_eqb}
use lib.Dec.{eqb}
use lib.ListN.{length}
use Rattle.rule.specs.Bits.{from, below}
use Rattle.rule.specs.Tests.{add_if, keep}
use Rattle.rule.specs.Listing.{yes_count}
use Rattle.std.specs.List.{count_by}
use Rattle.std.proofs.lemmas.List.Recursion.{is_count_by}
use Rattle.rule.specs.Cells.{flag_at}
use Rattle.rule.specs.Diagram.{asking}
use Rattle.theory.proofs.Scan.{more, counted}

module _ (c : List ℕ) (v : ℕ) where
  pub asked_none : 0 ≡ asking c 0 v
  unfolding asking keep from
  asked_none = refl

  next : (k : ℕ) (b : Bool) → eqb (flag_at c k) v ≡ b → asking c (k + 1) v ≡ asking c k v + more b
  unfolding asking
  next k b e = counted (λ k. eqb (flag_at c k) v) k ∙ ap (λ (b : Bool). length (keep (λ k. eqb (flag_at c k) v) (below k)) + more b) e

  pub asked_more : (k : ℕ) → flag_at c k ≡ v → asking c (k + 1) v ≡ asking c k v + 1
  asked_more k e = next k true (eq-eqb (flag_at c k) v e)

  pub asked_other : (k : ℕ) → (flag_at c k ≡ v → ⊥) → asking c (k + 1) v ≡ asking c k v
  asked_other k d = next k false (ne_eqb (flag_at c k) v d) ∙ add-zero _

-- the rows that say yes
pub yes_counted : (t : List ℕ) → yes_count t ≡ count_by (λ (x : ℕ). eqb x 1) t
unfolding keep
yes_counted t = is_count_by yes_count (λ (x : ℕ). eqb x 1) refl row t
  where
    taken : (x : ℕ) (b : Bool) (xs : List ℕ) → length (add_if b x (keep (eqb 1) xs)) ≡ cond b (1 + yes_count xs) (yes_count xs)
    taken x true xs = let n = yes_count xs in omega arith
    taken x false xs = refl

    same : (x : ℕ) → eqb 1 x ≡ eqb x 1
    same x = elim (ℕ_discrete x 1) [
      | yes e ↦ rw e
      | no d ↦ ne_eqb 1 x (λ e. d (sym e)) ∙ sym (ne_eqb x 1 d)
    ]

    row : (x : ℕ) (xs : List ℕ) → yes_count (x ∷ xs) ≡ cond (eqb x 1) (1 + yes_count xs) (yes_count xs)
    row x xs = rw (same x) (taken x (eqb x 1) xs)
