-- What passed build's tests fits.
-- Assumes nothing.
use mathlib.Core.Path.{◌≡◌, sym}
use mathlib.Core.Bool.{true, not}
use mathlib.Core.List.{List, [], ◌∷◌}
use Prim.Native.Nat.{ℕ}
use borrow.Author.Tests.{ltb-false, eqb-true, not-false}
use lib.Dec.{ltb}
use Rattle.rule.specs.Table.{fit_length, fit_rows}
use Rattle.rule.specs.Order.{fit_order}
use Rattle.rule.specs.Cells.{fit_cells}
use Rattle.rule.specs.Refusals.{refusal, flag_count, table_length, table_read}
use Rattle.cells.proofs.Fit.{fit_length_lem}
use Rattle.theory.proofs.Refused.{row_passed}
use Rattle.building.specs.Fill.{Fits}

pub fits : (n : ℕ) (t o c : List ℕ) → 0 ≡ refusal (flag_count n ∷ table_length n t ∷ table_read t ∷ []) → fit_order n o ≡ true → fit_cells c ≡ true → Fits n t o c
unfolding fit_length fit_cells
fits n t o c e a b =
    let (p, q) = row_passed (ltb 10 n) 0 (table_length n t ∷ table_read t ∷ []) (sym e) in
    let (l, r) = row_passed (not (fit_length n t)) 1 (table_read t ∷ []) q in
    let (w, _) = row_passed (not (fit_rows t)) 2 [] r in
    record {
      few = ltb-false 10 n p;
      rows = eqb-true _ _ (not-false _ l);
      bits = not-false _ w;
      order_fits = a;
      lent = fit_length_lem c b;
    }
