-- Reach from a root by the marks of children, in cells whose children are smaller.
-- Assumes nothing.
use mathlib.Core.Path.{◌≡◌, refl, sym}
use mathlib.Core.Logic.{inl, inr}
use mathlib.Core.Bool.{Bool, true, false, false≢true}
use mathlib.Core.List.{List, [], ◌∷◌}
use Prim.Native.Nat.{ℕ, zero, suc, ◌+◌, ◌-◌, ◌≤◌, ◌<◌}
use native.Mathlib.Omega.{arith}
use lib.ListN.{length, get_or, take}
use Rattle.std.specs.List.{list_all}
use Rattle.rule.specs.Cells.{most_records}
use Rattle.rule.specs.Sound.{children_smaller}
use Rattle.rule.specs.Diagram.{all_reached}
use Rattle.theory.proofs.Tests.{same_bool, below_each, and_split}
use Rattle.theory.proofs.Shape.{children_smaller_lem}
use Rattle.theory.specs.Shape.{Smaller}
use Rattle.theory.proofs.Reach.{root_last, reached_parents, reached_by_parents}
use Rattle.reach.specs.Mark.{Marked}

-- ---- the first n marks

all_at : (l : List Bool) (n : ℕ) → list_all (λ marked. marked) (take n l) ≡ true → (k : ℕ) → k < n → k < length l → get_or l k false ≡ true
all_at l zero e k h g = absurd (omega arith)
all_at [] (suc n) e k h g = absurd (omega arith)
all_at (x ∷ l) (suc n) e zero h g = (and_split _ _ e).0
all_at (x ∷ l) (suc n) e (suc k) h g = all_at l n (and_split x _ e).1 k (omega arith) (omega arith)

at_all : (l : List Bool) (n : ℕ) → ((k : ℕ) → k < n → get_or l k false ≡ true) → list_all (λ marked. marked) (take n l) ≡ true
at_all l zero f = refl
at_all [] (suc n) f = refl
at_all (x ∷ l) (suc n) f = rw (f 0 (omega arith)) (at_all l n (λ k h. f (suc k) (omega arith)))

-- ---- all records reached

-- with no record, all are reached
pub reached_none : (c : List ℕ) (used root : ℕ) → used ≡ 0 → true ≡ all_reached c used root
unfolding all_reached
reached_none c used root e = sym (below_each _ used (λ k h. absurd (omega arith)))

module _ (c : List ℕ) (used : ℕ) (small : children_smaller c used ≡ true) where
  smaller : Smaller c used
  smaller = let f = (children_smaller_lem c used).0 small in record { low = λ k h. (f k h).0; high = λ k h. (f k h).1 }

  module _ (root : ℕ) where
    -- from a root before the last record that one is not reached
    pub reached_short : 0 < used → root ≤ used → false ≡ all_reached c used root
    reached_short g h = same_bool _ _ (λ e. absurd (false≢true e)) (λ e. let q = root_last smaller root (omega arith) g e in absurd (omega arith))

    -- from the last record, all are reached where each other is marked for a child
    pub reached_last : {marks : List Bool} → Marked c used marks → used ≤ most_records → 0 < used → root ≡ used + 1
        → list_all (λ marked. marked) (take (used - 1) marks) ≡ all_reached c used root
    reached_last {marks} m few g e =
        same_bool _ _
        (λ f.
        reached_by_parents smaller root e (λ k h.
        let (j, l, p) = ((m.is k).0 (all_at marks (used - 1) f k (omega arith) (omega (arith, m.lent)))).1 in
        (j, elim p [ inl q ↦ omega (arith, smaller.low j l) | inr q ↦ omega (arith, smaller.high j l) ], l, p)))
        (λ f.
        at_all marks (used - 1) (λ k h.
        let (j, _, l, p) = reached_parents smaller root (omega arith) f k (omega arith) in
        (m.is k).1 (omega arith, (j, l, p))))
