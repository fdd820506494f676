-- The rows of lent cells, and what holds where none applies.
-- Assumes nothing.
use mathlib.Core.Path.{◌≡◌, sym}
use mathlib.Core.Bool.{true, not}
use mathlib.Core.List.{List, [], ◌∷◌}
use Prim.Native.Nat.{ℕ, ◌≤◌}
use borrow.Author.Tests.{ltb-false, not-false}
use lib.Dec.{ltb}
use Rattle.rule.specs.Order.{fit_order}
use Rattle.rule.specs.Cells.{fit_cells}
use Rattle.rule.specs.Sound.{sound}
use Rattle.rule.specs.Refusals.{Row, refusal, flag_count, order_places, cells, records}
use Rattle.theory.proofs.Refused.{row_passed}

-- ---- the rows of a flag count and an order

pub few_flags : (n : ℕ) (o : List ℕ) → 0 ≡ refusal (flag_count n ∷ order_places n o ∷ []) → n ≤ 10
few_flags n o e = ltb-false _ _ (row_passed (ltb 10 n) 0 (order_places n o ∷ []) (sym e)).0

-- ---- the rows of lent cells with used records

-- the rows that calls on lent cells share
abbrev pub cell_rows : ℕ → List ℕ → List ℕ → ℕ → List Row
cell_rows n o c used = flag_count n ∷ order_places n o ∷ cells c ∷ records n o c used ∷ []

-- none of them applies
pub record Taken (n : ℕ) (o c : List ℕ) (used : ℕ) : Type 0 where
  pub few : n ≤ 10
  pub ordered : fit_order n o ≡ true
  pub lent : fit_cells c ≡ true
  pub is_sound : sound n o c used ≡ true

module _ (n : ℕ) (o c : List ℕ) (used : ℕ) where
  pub rows_passed : 0 ≡ refusal (cell_rows n o c used) → Taken n o c used
  rows_passed e =
      let (a, e₁) = row_passed (ltb 10 n) 0 (order_places n o ∷ cells c ∷ records n o c used ∷ []) (sym e) in
      let (b, e₂) = row_passed (not (fit_order n o)) 3 (cells c ∷ records n o c used ∷ []) e₁ in
      let (d, e₃) = row_passed (not (fit_cells c)) 4 (records n o c used ∷ []) e₂ in
      let (s, e₄) = row_passed (not (sound n o c used)) 5 [] e₃ in
      record {
        few = ltb-false _ _ a;
        ordered = not-false _ b;
        lent = not-false _ d;
        is_sound = not-false _ s;
      }
