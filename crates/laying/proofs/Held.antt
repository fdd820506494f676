-- A file read and tested aside: its fields, what follows them, and the records in the first of the held cells.
-- Assumes nothing.
use mathlib.Core.Path.{◌≡◌, sym, ap, ◌∙◌}
use mathlib.Core.Bool.{Bool, true, false, not}
use mathlib.Core.List.{List, ◌++◌}
use Prim.Native.Nat.{ℕ, zero, suc, ◌+◌, ◌≤◌, ◌<◌}
use native.Mathlib.Omega.{arith}
use borrow.Author.Tests.{lt-ltb, le-ltb, not-true, not-false}
use lib.ListN.{length, get_or, take, drop, replicate, length-append, length-replicate, length-drop}
use lib.Seq.{take_at}
use Rattle.rule.specs.Bits.{bit}
use Rattle.rule.specs.Cells.{most_records, most_cells, fit_cells, room, RecordValues, record_cells, laid_in}
use Rattle.rule.specs.Diagram.{diagram}
use Rattle.rule.specs.Files.{yes_bit, Reading, Outcome, count, record_at, stop, go, and_then, unless, read_map, root_read, read_end, reading}
use Rattle.rule.proofs.Zeros.{take-zeros}
use Rattle.theory.proofs.Bits.{bit_lt, length-below}
use Rattle.cells.proofs.Fit.{fit_length_lem}
use Rattle.cursor.specs.declared.place.Cursor.{Cursor}
use Rattle.cursor.specs.Step.{reading_of, map_read}
use Rattle.cursor.proofs.Stepped.{then_then, stays, goes_on}
use Rattle.fields.specs.Fields.{Whole, fields_read}
use Rattle.laying.specs.Aside.{Tested}
use Rattle.theory.proofs.Laying.{laid-length}

-- ---- the fields

module _ (c file : List ℕ) where
  pub reading_unfit : {a : Bool} → a ≡ fit_cells c → not a ≡ true → reading c file ≡ stop 5
  unfolding reading read_map unless
  reading_unfit {a} e f = rw (sym e ∙ not-true a f)

  module _ (fit : fit_cells c ≡ true) where
    map_is : read_map c file ≡ map_read file
    unfolding read_map map_read unless
    map_is = rw fit

    reading_is : reading c file ≡ and_then (fields_read c file) (read_end c file)
    unfolding reading fields_read
    reading_is = rw map_is (sym (simp then_then))

    pub fields_stop : {k : ℕ} → stop k ≡ fields_read c file → stop k ≡ reading c file
    fields_stop e = stays (read_end c file) e ∙ sym reading_is

    pub fields_go : {x : Reading} {o : Outcome} → go x ≡ fields_read c file → o ≡ read_end c file x → o ≡ reading c file
    fields_go e f = goes_on (read_end c file) e f ∙ sym reading_is

-- ---- behind the fields

pub left_over_lem : (c file : List ℕ) (x : Reading) → x.at < length file → read_end c file x ≡ stop 11
unfolding read_end unless
left_over_lem c file x h = rw (lt-ltb x.at (length file) h)

pub root_le : (m k : ℕ) → root_read m k ≤ k + 1
root_le m zero = omega (arith, bit_lt m yes_bit)
root_le m (suc k) = omega arith

pub root_no : (m k : ℕ) {b : ℕ} → k ≡ 0 → b ≡ bit m yes_bit → (b ≡ 1 → ⊥) → 0 ≡ root_read m k
root_no m k z e d = rw (z, ← e) (let few : bit m yes_bit < 2 = bit_lt m yes_bit in omega (arith, d))

-- records laid in other cells of the same length
laid_as : (c d : List ℕ) (rs : List RecordValues) → length d ≡ length c → laid_in d rs ≡ laid_in c rs
laid_as c d rs e = ap (λ (k : ℕ). take k (record_cells rs ++ replicate k 0)) e

module _ (c file : List ℕ) (x : Cursor) (whole : length file ≤ x.at) {m root : ℕ} (p : m ≡ get_or file 0 0) (q : root ≡ root_read m x.count) {held d : List ℕ} {a : Bool} (lent : length held ≡ length c) (t : Tested file x root held a d) where
  counted : count (reading_of file x) ≡ x.count
  counted = length-below (record_at file x.records) x.count

  pub laid_in_lem : d ≡ laid_in c (reading_of file x).records
  laid_in_lem = t.laid ∙ laid_as c held (reading_of file x).records lent

  tested : diagram x.n x.order.places (laid_in c (reading_of file x).records) (count (reading_of file x)) (root_read (get_or file 0 0) (count (reading_of file x))) ≡ a
  tested = rw (counted, ← p, ← q, ← laid_in_lem) (sym t.is)

  pub end_unfit : not a ≡ true → read_end c file (reading_of file x) ≡ stop 6
  unfolding read_end unless
  end_unfit f = rw (le-ltb x.at (length file) whole, tested ∙ not-true a f)

  pub end_fit : not a ≡ false → read_end c file (reading_of file x) ≡ go (reading_of file x)
  unfolding read_end unless
  end_fit f = rw (le-ltb x.at (length file) whole, tested ∙ not-false a f)

-- ---- the held cells

pub most_held : {held : List ℕ} → held ≡ replicate most_cells 0 → length held ≡ most_cells
most_held e = ap length e ∙ length-replicate {A = ℕ} most_cells 0

module _ (c : List ℕ) (fit : fit_cells c ≡ true) {held : List ℕ} (e : held ≡ replicate most_cells 0) where
  pub first_held : take (length c) held ≡ replicate (length c) 0
  first_held = rw e (take-zeros (length c) most_cells (fit_length_lem c fit))

  pub first_lent : length (take (length c) held) ≡ length c
  first_lent = ap length first_held ∙ length-replicate {A = ℕ} (length c) 0

  -- fit to lay records in
  pub held_whole : {file : List ℕ} {x : Cursor} → Whole c file x → Whole (take (length c) held) file x
  held_whole w =
      record { few = w.few; reached = w.reached; label = w.label; records = w.records; held = omega (arith, w.held, first_lent) }

  pub held_room : room (take (length c) held) ≤ most_records
  held_room = omega (arith, first_lent, fit_length_lem c fit)

  pub held_zeros : take (length c) held ≡ replicate (length (take (length c) held)) 0
  held_zeros = first_held ∙ ap (λ (k : ℕ). replicate k 0) (sym first_lent)

  module _ (rs : List RecordValues) {d : List ℕ} (laid : d ≡ laid_in (take (length c) held) rs) where
    laid_first : length d ≡ length c
    laid_first = ap length laid ∙ laid-length (take (length c) held) rs ∙ first_lent

    pub most_laid : length (d ++ drop (length c) held) ≡ most_cells
    most_laid =
        length-append d (drop (length c) held)
        ∙ omega (arith, laid_first, length-drop (length c) held, most_held e, fit_length_lem c fit)

    pub take_laid : take (length c) (d ++ drop (length c) held) ≡ laid_in c rs
    take_laid = take_at d (drop (length c) held) (length c) laid_first ∙ laid ∙ laid_as c (take (length c) held) rs first_lent
