-- A stretch that is folded, way by way: each way passed has its code and is entered, and the first ways of all are the folded stretch.
-- Assumes nothing.
use mathlib.Core.Path.{◌≡◌, refl, sym, ◌∙◌}
use mathlib.Core.Logic.{⊎_elim}
use mathlib.Core.List.{List}
use Prim.Native.Nat.{ℕ, ◌+◌, ◌*◌, ◌<◌}
use native.Mathlib.Nat.{eq-or-lt_of_le}
use native.Mathlib.Decide.{dec_lt}
use native.Mathlib.Omega.{arith}
use borrow.Author.Count.{below_more}
use lib.ListN.{length, get_or, set, replicate, length-set}
use lib.Seq.{get_or-set_same, get_or-set_other}
use Rattle.way_index.specs.Index.{Same, New, First, heads, links, Indexed}
use Rattle.way_index.proofs.Chain.{index_none}
use Rattle.folding.specs.Fold.{Folds}

module _ (s : List ℕ) (p : ℕ) where
  -- two new ways with the same codes are one
  new_one : {i j : ℕ} → New s p i → New s p j → Same s p i j → i ≡ j
  new_one {i} {j} f g e =
      elim (dec_lt i j) [
        | yes h ↦ absurd (g i h e)
        | no h ↦ ⊎_elim (λ (q : j ≡ i). sym q) (λ (q : j < i). absurd (f j q (sym e.0, sym e.1))) (eq-or-lt_of_le (omega arith))
      ]

  -- the ways below i of a stretch of so many ways have their codes, and are entered
  pub record Folding (ways : ℕ) (d index : List ℕ) (i : ℕ) : Type 0 where
    pub lent : length d ≡ ways
    pub entered : Indexed s p i index
    pub firsts : (j : ℕ) → j < i → First s p j (get_or d j 0)

module _ {s : List ℕ} {p : ℕ} where
  pub folded : (d : List ℕ) → length s ≡ length d * 2 → ((i : ℕ) → i < length d → First s p i (get_or d i 0)) → Folds s p d
  folded d half f =
      record {
        half = half;
        same = λ i j h k. (
          λ e.
              let a = (f i h).same in
              let b = rw (← e) at (f j k).same in
              (sym a.0 ∙ b.0, sym a.1 ∙ b.1),
          λ e.
              let a = (f i h).same in
              let b = (f j k).same in
              new_one s p (f i h).new (f j k).new (a.0 ∙ e.0 ∙ sym b.0, a.1 ∙ e.1 ∙ sym b.1),
        );
        first = λ i h.
            let a = f i h in
            let b = f (get_or d i 0) (omega (arith, a.within)) in
            (a.within, new_one s p b.new a.new b.same);
      }

  -- ---- one way more

  pub folding_none : (d : List ℕ) → Folding s p (length d) d (replicate (heads + links) 0) 0
  folding_none d = record { lent = refl; entered = index_none; firsts = λ j h. absurd (omega arith) }

  pub folding_next : {ways i r : ℕ} {d index next : List ℕ} → i < ways → Folding s p ways d index i → First s p i r → Indexed s p (i + 1) next
      → Folding s p ways (set d i r) next (i + 1)
  folding_next {ways} {i} {r} {d} l x f e =
      record {
        lent = length-set d i r ∙ x.lent;
        entered = e;
        firsts = below_more (λ (j : ℕ). First s p j (get_or (set d i r) j 0)) i
            (λ j h. rw (get_or-set_other d i j r 0 (omega arith)) (x.firsts j h))
            (rw (get_or-set_same d i r 0 (omega (arith, x.lent))) f);
      }
