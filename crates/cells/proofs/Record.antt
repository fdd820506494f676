-- The laws of putting a record: its own fields are what was put, and every other record is as it was.
-- Assumes nothing.
use mathlib.Core.Path.{◌≡◌, sym, ap, subst, ◌∙◌}
use mathlib.Core.Logic.{◌⊎◌, ◌≢◌, inl, inr}
use mathlib.Core.List.{List, ◌++◌}
use Prim.Native.Nat.{ℕ, suc, ◌+◌, ◌-◌, ◌*◌, ◌≤◌, ◌<◌}
use native.Mathlib.Nat.{add-zero}
use native.Mathlib.Decide.{dec_lt}
use native.Mathlib.Omega.{arith}
use lib.ListN.{length, get_or, take, drop, set, length-append, length-drop, get_or-append}
use lib.Seq.{length-take-le, get_or-take, get_or-drop, get_or-append-add, sets-eq}
use Rattle.rule.specs.Cells.{width, room, flag_at, low_at, high_at, in_cells}
use Rattle.cells.specs.Record.{put_record}

-- ---- the first k records, and this one behind them

module _ (c : List ℕ) (k flag low high : ℕ) (h : k ≤ room c) where
  first : length (take (k * width) c) ≡ k * width
  first = length-take-le (k * width) c (omega arith)

  pub behind_length : length (take (k * width) c ++ in_cells flag low high) ≡ (k + 1) * width
  behind_length = length-append (take (k * width) c) (in_cells flag low high) ∙ omega (arith, first)

  -- the older records' cells
  pub behind_old : (i : ℕ) → i < k * width → get_or (take (k * width) c ++ in_cells flag low high) i 0 ≡ get_or c i 0
  behind_old i g = get_or-append (take (k * width) c) (in_cells flag low high) 0 i (omega (arith, first)) ∙ get_or-take (k * width) c i 0 g

  -- the record's own
  pub behind_own : (i : ℕ) → get_or (take (k * width) c ++ in_cells flag low high) (k * width + i) 0 ≡ get_or (in_cells flag low high) i 0
  behind_own i =
      ap (λ (a : ℕ). get_or (take (k * width) c ++ in_cells flag low high) (a + i) 0) (sym first)
      ∙ get_or-append-add (take (k * width) c) (in_cells flag low high) i 0

-- ---- a record put at place k

module _ (c : List ℕ) (k flag low high : ℕ) (h : k < room c) where
  abbrev front : List ℕ
  front = take (k * width) c ++ in_cells flag low high

  size : length front ≡ (k + 1) * width
  size = behind_length c k flag low high (omega arith)

  pub put_length : length (put_record c k flag low high) ≡ length c
  unfolding put_record
  put_length = length-append front (drop ((k + 1) * width) c) ∙ omega (arith, size, length-drop ((k + 1) * width) c)

  in_front : (i : ℕ) → i < (k + 1) * width → get_or (put_record c k flag low high) i 0 ≡ get_or front i 0
  unfolding put_record
  in_front i g = get_or-append front (drop ((k + 1) * width) c) 0 i (omega (arith, size))

  -- a cell outside of the record is as it was
  pub put_else : (i : ℕ) → (i < k * width) ⊎ ((k + 1) * width ≤ i) → get_or (put_record c k flag low high) i 0 ≡ get_or c i 0
  unfolding put_record
  put_else i (inl g) = in_front i (omega arith) ∙ behind_old c k flag low high (omega arith) i g
  put_else i (inr g) =
      let e : length front + (i - (k + 1) * width) ≡ i = omega (arith, size) in
      let a : (k + 1) * width + (i - (k + 1) * width) ≡ i = omega arith in
      ap (λ (j : ℕ). get_or (put_record c k flag low high) j 0) (sym e)
      ∙ get_or-append-add front (drop ((k + 1) * width) c) (i - (k + 1) * width) 0
      ∙ get_or-drop ((k + 1) * width) c (i - (k + 1) * width) 0
      ∙ ap (λ (j : ℕ). get_or c j 0) a

  -- so is another record
  put_apart : (j i : ℕ) → j ≢ k → i < width → get_or (put_record c k flag low high) (j * width + i) 0 ≡ get_or c (j * width + i) 0
  put_apart j i d g = put_else (j * width + i) (elim (dec_lt j k) [ yes l ↦ inl (omega arith) | no l ↦ inr (omega arith) ])

  pub put_flag_else : (j : ℕ) → j ≢ k → flag_at (put_record c k flag low high) j ≡ flag_at c j
  unfolding flag_at
  put_flag_else j d =
      let e : j * width + 0 ≡ j * width = omega arith in
      subst (λ (a : ℕ). get_or (put_record c k flag low high) a 0 ≡ get_or c a 0) e (put_apart j 0 d (omega arith))

  pub put_low_else : (j : ℕ) → j ≢ k → low_at (put_record c k flag low high) j ≡ low_at c j
  unfolding low_at
  put_low_else j d = put_apart j 1 d (omega arith)

  pub put_high_else : (j : ℕ) → j ≢ k → high_at (put_record c k flag low high) j ≡ high_at c j
  unfolding high_at
  put_high_else j d = put_apart j 2 d (omega arith)

  put_own : (i : ℕ) → i < width → get_or (put_record c k flag low high) (k * width + i) 0 ≡ get_or (in_cells flag low high) i 0
  put_own i g = in_front (k * width + i) (omega arith) ∙ behind_own c k flag low high (omega arith) i

  pub put_flag : flag_at (put_record c k flag low high) k ≡ flag
  unfolding flag_at
  put_flag = ap (λ (a : ℕ). get_or (put_record c k flag low high) a 0) (sym (add-zero (k * width))) ∙ put_own 0 (omega arith)

  pub put_low : low_at (put_record c k flag low high) k ≡ low
  unfolding low_at
  put_low = put_own 1 (omega arith)

  pub put_high : high_at (put_record c k flag low high) k ≡ high
  unfolding high_at
  put_high = put_own 2 (omega arith)

  -- stored cell by cell
  pub put_stores : set (set (set c (k * width) flag) (k * width + 1) low) (k * width + 2) high ≡ put_record c k flag low high
  unfolding put_record
  put_stores =
      let second : k * width + 1 ≡ suc (k * width) = omega arith in
      let third : k * width + 2 ≡ suc (suc (k * width)) = omega arith in
      let past : (k + 1) * width ≡ k * width + width = omega arith in
      rw (second, third, past) (sets-eq (in_cells flag low high) c (k * width) (omega arith))
