-- Records laid in cells, one behind the other, stand there record by record, and the cells past them are 0.
-- Assumes nothing.
use mathlib.Core.Path.{◌≡◌, refl, sym, ap, ◌∙◌}
use mathlib.Core.List.{List, [], ◌∷◌, ◌++◌}
use Prim.Native.Nat.{ℕ, zero, suc, ◌+◌, ◌-◌, ◌*◌, ◌≤◌, ◌<◌}
use native.Mathlib.Nat.{add-zero, le_of_suc-le-suc}
use native.Mathlib.Decide.{dec_lt}
use native.Mathlib.Omega.{arith}
use lib.ListN.{length, get_or, length-append, length-replicate, get_or-eq_default}
use lib.Seq.{get_or-take, get_or-append-add, length-take-le}
use Rattle.rule.specs.Cells.{width, room, flag_at, low_at, high_at, in_cells, RecordValues, record_cells, laid_in}
use Rattle.rule.proofs.Zeros.{zeros, zero_at}

pub length-cells : (rs : List RecordValues) → length (record_cells rs) ≡ length rs * width
unfolding record_cells
length-cells [] = refl
length-cells (r ∷ rs) = omega (arith, length-cells rs)

-- cell b of record k
cell_in : (rs : List RecordValues) (more : List ℕ) (none : RecordValues) (k b : ℕ) → k < length rs → b < width
    → get_or (record_cells rs ++ more) (k * width + b) 0 ≡ get_or (in_cells (get_or rs k none).flag (get_or rs k none).low (get_or rs k none).high) b 0
unfolding record_cells
cell_in [] more none k b h l = absurd (omega arith)
cell_in (r ∷ rs) more none zero zero h l = refl
cell_in (r ∷ rs) more none zero (suc zero) h l = refl
cell_in (r ∷ rs) more none zero (suc (suc zero)) h l = refl
cell_in (r ∷ rs) more none zero (suc (suc (suc b))) h l = absurd (omega arith)
cell_in (r ∷ rs) more none (suc k) b h l =
    let e : suc k * width + b ≡ suc (suc (suc (k * width + b))) = omega arith in
    ap (λ (i : ℕ). get_or (record_cells (r ∷ rs) ++ more) i 0) e ∙ cell_in rs more none k b (le_of_suc-le-suc h) l

-- as long as the lent cells
pub laid-length : (c : List ℕ) (rs : List RecordValues) → length (laid_in c rs) ≡ length c
laid-length c rs =
    length-take-le (length c) (record_cells rs ++ zeros (length c))
    (omega (arith, length-append (record_cells rs) (zeros (length c)), length-replicate {A = ℕ} (length c) 0))

module _ (c : List ℕ) (rs : List RecordValues) (fits : length rs ≤ room c) where
  laid_cell : (none : RecordValues) (k b : ℕ) → k < length rs → b < width
      → get_or (laid_in c rs) (k * width + b) 0 ≡ get_or (in_cells (get_or rs k none).flag (get_or rs k none).low (get_or rs k none).high) b 0
  laid_cell none k b h l =
      get_or-take (length c) (record_cells rs ++ zeros (length c)) (k * width + b) 0 (omega arith) ∙ cell_in rs (zeros (length c)) none k b h l

  pub laid_flag : (none : RecordValues) (k : ℕ) → k < length rs → flag_at (laid_in c rs) k ≡ (get_or rs k none).flag
  unfolding flag_at
  laid_flag none k h = ap (λ (i : ℕ). get_or (laid_in c rs) i 0) (sym (add-zero (k * width))) ∙ laid_cell none k 0 h (omega arith)

  pub laid_low : (none : RecordValues) (k : ℕ) → k < length rs → low_at (laid_in c rs) k ≡ (get_or rs k none).low
  unfolding low_at
  laid_low none k h = laid_cell none k 1 h (omega arith)

  pub laid_high : (none : RecordValues) (k : ℕ) → k < length rs → high_at (laid_in c rs) k ≡ (get_or rs k none).high
  unfolding high_at
  laid_high none k h = laid_cell none k 2 h (omega arith)

  pub laid_clear : (i : ℕ) → length rs * width ≤ i → get_or (laid_in c rs) i 0 ≡ 0
  laid_clear i h =
      elim (dec_lt i (length c)) [
        | yes l ↦
            let e : i ≡ length (record_cells rs) + (i - length rs * width) = omega (arith, length-cells rs) in
            get_or-take (length c) (record_cells rs ++ zeros (length c)) i 0 l
            ∙ ap (λ (x : ℕ). get_or (record_cells rs ++ zeros (length c)) x 0) e
            ∙ get_or-append-add (record_cells rs) (zeros (length c)) (i - length rs * width) 0
            ∙ zero_at (length c) (i - length rs * width)
        | no l ↦ get_or-eq_default (laid_in c rs) 0 (omega (arith, laid-length c rs))
      ]
