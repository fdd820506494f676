-- Records laid in cells, one behind the other, and the used records of cells laid in others.
-- Assumes nothing.
use mathlib.Core.Path.{◌≡◌, refl, sym, ap, ◌∙◌}
use mathlib.Core.List.{List, [], ◌∷◌, ◌++◌, map}
use Prim.Native.Nat.{ℕ, zero, suc, ◌+◌, ◌-◌, ◌*◌, ◌≤◌, ◌<◌}
use native.Mathlib.Omega.{arith}
use lib.ListN.{length, get_or, take, drop, length-append}
use lib.Seq.{take_at, take-append-add, drop-append-add, drop-cons, ext_get_or}
use Rattle.rule.specs.Bits.{from}
use Rattle.rule.specs.Cells.{width, room, flag_at, low_at, high_at, in_cells, RecordValues, record_cells, laid_in, record_in, records_in}
use Rattle.rule.proofs.Zeros.{zeros, take-zeros, drop-zeros, padded}
use Rattle.theory.proofs.Bits.{length-below}
use Rattle.theory.proofs.Laying.{length-cells, laid-length}
use Rattle.cells.specs.Record.{put_record}

-- ---- the cells of records

cells-more : (rs : List RecordValues) (r : RecordValues) → record_cells (rs ++ (r ∷ [])) ≡ record_cells rs ++ in_cells r.flag r.low r.high
unfolding record_cells
cells-more [] r = refl
cells-more (s ∷ rs) r = ap (λ (l : List ℕ). in_cells s.flag s.low s.high ++ l) (cells-more rs r)

-- ---- laid in lent cells

module _ (c : List ℕ) (rs : List RecordValues) (h : length rs ≤ room c) where
  pub laid_is : laid_in c rs ≡ record_cells rs ++ zeros (length c - length rs * width)
  laid_is =
      let e : length c ≡ length (record_cells rs) + (length c - length rs * width) = omega (arith, length-cells rs) in
      ap (λ (k : ℕ). take k (record_cells rs ++ zeros (length c))) e
      ∙ take-append-add (record_cells rs) (zeros (length c)) (length c - length rs * width)
      ∙ ap (λ (l : List ℕ). record_cells rs ++ l) (take-zeros (length c - length rs * width) (length c) (omega arith))

pub laid_none : (c : List ℕ) → c ≡ zeros (length c) → c ≡ laid_in c []
unfolding record_cells
laid_none c e = e ∙ sym (take-zeros (length c) (length c) (omega arith))

-- a record put behind them
pub laid_more : (c : List ℕ) (rs : List RecordValues) (r : RecordValues) (k : ℕ) → length rs ≡ k → k < room c
    → put_record (laid_in c rs) k r.flag r.low r.high ≡ laid_in c (rs ++ (r ∷ []))
unfolding put_record
laid_more c rs r k e h =
    let own = in_cells r.flag r.low r.high in
    let rest = length c - length rs * width in
    let at : length (record_cells rs) ≡ k * width = omega (arith, length-cells rs) in
    let past : (k + 1) * width ≡ length (record_cells rs) + width = omega (arith, length-cells rs) in
    let many : length (rs ++ (r ∷ [])) ≡ length rs + 1 = length-append rs (r ∷ []) in
    let left : rest - width ≡ length c - length (rs ++ (r ∷ [])) * width = omega arith in
    rw (laid_is c rs (omega arith), take_at (record_cells rs) (zeros rest) (k * width) at, past, drop-append-add (record_cells rs) (zeros rest) width, drop-zeros width rest, left)
    (sym (laid_is c (rs ++ (r ∷ [])) (omega arith) ∙ rw (cells-more rs r)))

-- ---- the used records of cells

cell_at : (c : List ℕ) (i k : ℕ) → i < length c → suc i ≡ k → drop i c ≡ get_or c i 0 ∷ drop k c
cell_at c i k h e = drop-cons c i 0 h ∙ ap (λ (j : ℕ). get_or c i 0 ∷ drop j c) e

-- k records from index a on
cells-from : (c : List ℕ) (a k : ℕ) → (a + k) * width ≤ length c → record_cells (map (record_in c) (from a k)) ≡ take (k * width) (drop (a * width) c)
unfolding record_cells from flag_at low_at high_at
cells-from c a zero h = refl
cells-from c a (suc k) h =
    let at = a * width in
    let own : suc k * width ≡ suc (suc (suc (k * width))) = omega arith in
    rw (
      own,
      cell_at c at (at + 1) (omega arith) (omega arith),
      cell_at c (at + 1) (at + 2) (omega arith) (omega arith),
      cell_at c (at + 2) (suc a * width) (omega arith) (omega arith),
      cells-from c (suc a) k (omega arith),
    )

-- the used records, behind which c is 0, laid in d
module _ (c : List ℕ) (used : ℕ) (fits : used ≤ room c) (clear : (i : ℕ) → used * width ≤ i → get_or c i 0 ≡ 0) (d : List ℕ) (held : used ≤ room d) where
  records_held : length (records_in c used) ≤ room d
  records_held = rw (length-below (record_in c) used) held

  pub laid_at : (i : ℕ) → get_or (laid_in d (records_in c used)) i 0 ≡ get_or c i 0
  laid_at i =
      let rest = length d - length (records_in c used) * width in
      ap (λ (l : List ℕ). get_or l i 0) (laid_is d (records_in c used) records_held)
      ∙ ap (λ (l : List ℕ). get_or (l ++ zeros rest) i 0) (cells-from c 0 used (omega arith))
      ∙ padded c (used * width) rest (omega arith) clear i

  pub laid_same : length d ≡ length c → laid_in d (records_in c used) ≡ c
  laid_same e = ext_get_or 0 _ c (laid-length d (records_in c used) ∙ e) (λ i l. laid_at i)
