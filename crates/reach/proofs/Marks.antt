-- The laws of marks: a mark more, and those of a record's two children.
-- Assumes nothing.
use mathlib.Core.Path.{◌≡◌, refl, sym, ap, ◌∙◌}
use mathlib.Core.Logic.{◌⊎◌, inl, inr, ⊎_elim, ◌↔◌}
use mathlib.Core.Bool.{Bool, true, false, false≢true}
use mathlib.Core.List.{List}
use Prim.Native.Nat.{ℕ, zero, suc, ◌+◌, ◌<◌}
use native.Mathlib.Decide.{ℕ_discrete}
use native.Mathlib.Nat.{eq-or-lt_of_le}
use native.Mathlib.Omega.{arith}
use borrow.Author.Tests.{lt-ltb, le-ltb}
use lib.ListN.{length, get_or, set, replicate, length-set, length-replicate}
use lib.Seq.{get_or-set_same, get_or-set_other}
use Rattle.rule.specs.Cells.{most_records, low_at, high_at, record_of}
use Rattle.theory.proofs.Walks.{node}
use Rattle.reach.specs.Mark.{mark, IsChild, Marked}

mark_end : (l : List Bool) (m : ℕ) → m < 2 → mark l m ≡ l
unfolding mark
mark_end l m h = rw (lt-ltb m 2 h)

mark_record : (l : List Bool) (k : ℕ) → mark l (k + 2) ≡ set l k true
unfolding mark
mark_record l k = let e : record_of (k + 2) ≡ k = omega arith in rw (le-ltb (k + 2) 2 (omega arith), e)

pub length-mark : (l : List Bool) (m : ℕ) → length (mark l m) ≡ length l
length-mark l m =
    elim (node m) [
      | inl h ↦ ap length (mark_end l m h)
      | inr (k, e) ↦ ap (λ (x : ℕ). length (mark l x)) e ∙ ap length (mark_record l k) ∙ length-set l k true
    ]

-- a record is marked that was, or that is the node's
mark_is : (l : List Bool) (m : ℕ) → m < length l + 2 → (k : ℕ) → (get_or (mark l m) k false ≡ true) ↔ ((get_or l k false ≡ true) ⊎ (m ≡ k + 2))
mark_is l m h k =
    elim (node m) [
      | inl q ↦ rw (mark_end l m q) (λ e. inl e, ⊎_elim (λ e. e) (λ (e : m ≡ k + 2). absurd (omega arith)))
      | inr (i, q) ↦ rw (q, mark_record l i) (at i (omega arith) (ℕ_discrete k i))
    ]
  where
    at : (i : ℕ) → i < length l → Dec (k ≡ i) → (get_or (set l i true) k false ≡ true) ↔ ((get_or l k false ≡ true) ⊎ (i + 2 ≡ k + 2))
    at i g (yes e) = rw e (λ x. inr refl, λ x. get_or-set_same l i true false g)
    at i g (no d) =
        (λ x. inl (sym (get_or-set_other l i k true false d) ∙ x), ⊎_elim (λ x. get_or-set_other l i k true false d ∙ x) (λ (x : i + 2 ≡ k + 2). absurd (d (omega arith))))

unmarked : (n i : ℕ) → get_or (replicate n false) i false ≡ false
unmarked zero i = refl
unmarked (suc n) zero = refl
unmarked (suc n) (suc i) = unmarked n i

pub marked_none : (c : List ℕ) → Marked c 0 (replicate most_records false)
marked_none c =
    record {
      lent = length-replicate most_records false;
      is = λ k. (λ e. absurd (false≢true (sym (unmarked most_records k) ∙ e)), λ (_, (j, h, _)). absurd (omega arith));
    }

-- the children of one record more
pub marked_more : {c : List ℕ} {marks : List Bool} {j low high : ℕ} → Marked c j marks → low ≡ low_at c j → high ≡ high_at c j → low < 1026 → high < 1026
    → Marked c (j + 1) (mark (mark marks low) high)
marked_more {c} {marks} {j} {low} {high} x e f l h =
    record { lent = length-mark (mark marks low) high ∙ length-mark marks low ∙ x.lent; is = λ k. (to k, from k) }
  where
    first : (k : ℕ) → (get_or (mark marks low) k false ≡ true) ↔ ((get_or marks k false ≡ true) ⊎ (low ≡ k + 2))
    first = mark_is marks low (omega (arith, x.lent))

    second : (k : ℕ) → (get_or (mark (mark marks low) high) k false ≡ true) ↔ ((get_or (mark marks low) k false ≡ true) ⊎ (high ≡ k + 2))
    second = mark_is (mark marks low) high (omega (arith, length-mark marks low, x.lent))

    to : (k : ℕ) → get_or (mark (mark marks low) high) k false ≡ true → (k < most_records) × IsChild c (j + 1) k
    to k m =
        elim ((second k).0 m) [
          | inl a ↦
              elim ((first k).0 a) [
                | inl b ↦ let (g, (i, q, p)) = (x.is k).0 b in (g, (i, omega arith, p))
                | inr b ↦ (omega arith, (j, omega arith, inl (sym e ∙ b)))
              ]
          | inr a ↦ (omega arith, (j, omega arith, inr (sym f ∙ a)))
        ]

    from : (k : ℕ) → (k < most_records) × IsChild c (j + 1) k → get_or (mark (mark marks low) high) k false ≡ true
    from k (g, (i, q, p)) =
        ⊎_elim
        (λ (z : i ≡ j).
        ⊎_elim
        (λ (a : low_at c i ≡ k + 2). (second k).1 (inl ((first k).1 (inr (e ∙ ap (low_at c) (sym z) ∙ a)))))
        (λ (a : high_at c i ≡ k + 2). (second k).1 (inr (f ∙ ap (high_at c) (sym z) ∙ a)))
        p)
        (λ (z : i < j). (second k).1 (inl ((first k).1 (inl ((x.is k).1 (g, (i, z, p)))))))
        (eq-or-lt_of_le (omega arith))
