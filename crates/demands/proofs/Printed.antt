-- The printed sheet: its form, when it is printed, and what its pages give back.
-- Assumes nothing.
use mathlib.Core.Path.{◌≡◌, refl, sym, ap, fun_ext, ◌∙◌}
use mathlib.Core.Logic.{◌≢◌}
use mathlib.Core.Bool.{true}
use mathlib.Core.List.{List, [], ◌∷◌, ◌++◌, map, flat_map, map-map, append-nil}
use Prim.Native.Nat.{ℕ, ◌+◌, ◌*◌, ◌≤◌, ◌<◌}
use native.Mathlib.Decide.{dec_lt}
use native.Mathlib.Omega.{arith}
use borrow.Author.Tests.{lt-ltb, le-ltb, eq-eqb}
use lib.Dec.{eqb}
use lib.ListN.{length, get_or, take, drop}
use lib.Seq.{take_at}
use Rattle.rule.specs.Bits.{below}
use Rattle.rule.specs.Tests.{each}
use Rattle.rule.specs.Cells.{width, room, RecordValues, laid_in, record_in, records_in}
use Rattle.rule.specs.Refusals.{Row, refusal, result, check_rows}
use Rattle.rule.specs.Reply.{Reply, reply, number_of, Accepted, leaves}
use Rattle.rule.specs.Calls.{Check}
use Rattle.rule.specs.Sheet.{line_length, page_lines, record_line, line_of, page_of, page_bytes, pages_for, sheet_lines, ended, sheet, print_rows, Prints, lines_in, read_pages}
use Rattle.rule.specs.Demands.{Gives, records_read, PrintedSheet}
use Rattle.theory.specs.Shape.{Shaped}
use Rattle.theory.proofs.Bits.{map_below}
use Rattle.theory.proofs.Tests.{in_each_lem}
use Rattle.theory.proofs.Reach.{diagram_view}
use Rattle.theory.proofs.Laying.{laid-length}
use Rattle.theory.proofs.Sequence.{used_cells}
use Rattle.theory.proofs.Refused.{passed, refused-more, passed_more, split_passed, refused_kept}
use Rattle.cells.proofs.Laid.{laid_at, laid_same}
use Rattle.paging.specs.Page.{Printable}
use Rattle.paging.proofs.Lines.{checked_printable, lines_count, lines_length, sheet_length}
use Rattle.demands.proofs.Stands.{accepted_reply, accepted_zero, number_of_lem, passed_diagram}
use Rattle.demands.proofs.Pages.{entry, sheet_lines_lem, sheet_read}

-- ---- what check accepts

shape : (n used root : ℕ) (order c : List ℕ) → refusal (check_rows n order c used root) ≡ 0 → Shaped n order c used
shape n used root order c z =
    (diagram_view n order c used root (passed_diagram n used root order c (passed (check_rows n order c used root) refl z))).cells

lines : (n used root : ℕ) (order c : List ℕ) (r : Reply) → Check n order c used root r → Accepted r
    → (length (sheet_lines c used) ≡ pages_for used * page_lines) × (each (λ line. eqb (length line) line_length) (sheet_lines c used) ≡ true)
    × (lines_in (pages_for used * page_lines) (sheet c used) ≡ sheet_lines c used) × (length (sheet c used) ≡ pages_for used * page_bytes)
lines n used root order c r x h =
    let p = checked_printable n order c used root (accepted_zero (refusal (check_rows n order c used root)) (used ∷ []) x h) in (
      lines_count c used,
      in_each_lem (λ line. eqb (length line) line_length) (sheet_lines c used) (λ line m. eq-eqb (length line) line_length (lines_length p line m)),
      ap (lines_in (pages_for used * page_lines)) (sym (append-nil (sheet c used))) ∙ sheet_lines_lem c used [],
      sheet_length p,
    )

-- ---- when it is printed

module _ (n used root : ℕ) (order c bytes after : List ℕ) (q r : Reply) (x : Check n order c used root q) (y : Prints n order c used root bytes r after) where
  own : List Row
  own = result (length (sheet c used)) (length bytes) ∷ []

  check_number : number_of q ≡ refusal (check_rows n order c used root)
  check_number = ap number_of x ∙ number_of_lem (refusal (check_rows n order c used root)) (used ∷ [])

  print_number : number_of r ≡ refusal (print_rows n order c used root bytes)
  print_number = ap number_of y.answer ∙ number_of_lem (refusal (print_rows n order c used root bytes)) (pages_for used ∷ [])

  kept : (refusal (print_rows n order c used root bytes) ≡ 0 → ⊥) → after ≡ bytes
  kept d = y.bytes_are ∙ sym (refused_kept (refusal (print_rows n order c used root bytes)) (sheet c used ++ drop (length (sheet c used)) bytes) bytes d)

  as_check : number_of q ≢ 0 → (number_of r ≡ number_of q) × (after ≡ bytes)
  unfolding own
  as_check d =
      let first = refused-more (check_rows n order c used root) own (λ z. d (check_number ∙ z)) in
      (print_number ∙ sym first ∙ sym check_number, kept (λ z. d (check_number ∙ first ∙ z)))

  module _ (z : number_of q ≡ 0) where
    passes : refusal (check_rows n order c used root) ≡ 0
    passes = sym check_number ∙ z

    last : refusal own ≡ refusal (print_rows n order c used root bytes)
    unfolding own
    last = passed_more (check_rows n order c used root) own refl passes

    long : length (sheet c used) ≡ pages_for used * page_bytes
    long = sheet_length (checked_printable n order c used root passes)

    too_few : length bytes < pages_for used * page_bytes → (number_of r ≡ 10) × (after ≡ bytes)
    unfolding own
    too_few h =
        let short : length bytes < length (sheet c used) = omega (arith, long) in
        let ten : refusal (print_rows n order c used root bytes) ≡ 10 = sym last ∙ rw (lt-ltb (length bytes) (length (sheet c used)) short) in
        (print_number ∙ ten, kept (λ e. omega arith))

    enough : pages_for used * page_bytes ≤ length bytes → Gives r (pages_for used ∷ [])
    unfolding own
    enough h =
        let fits : length (sheet c used) ≤ length bytes = omega (arith, long) in
        let none : refusal (print_rows n order c used root bytes) ≡ 0 = sym last ∙ rw (le-ltb (length bytes) (length (sheet c used)) fits) in
        y.answer ∙ ap (λ (k : ℕ). reply k (pages_for used ∷ [])) none

-- ---- what the pages give back

-- of an accepted call
record PrintedAs (c : List ℕ) (used pages : ℕ) (after : List ℕ) : Type 0 where
  count : pages ≡ pages_for used
  can : Printable c used
  more : List ℕ
  left : after ≡ sheet c used ++ more

module _ (n used root pages : ℕ) (order c bytes after : List ℕ) (r : Reply) (y : Prints n order c used root bytes r after) (g : Gives r (pages ∷ [])) where
  none : refusal (print_rows n order c used root bytes) ≡ 0
  none = (accepted_reply (refusal (print_rows n order c used root bytes)) y.answer g).0

  checked : refusal (check_rows n order c used root) ≡ 0
  checked = (split_passed (check_rows n order c used root) (result (length (sheet c used)) (length bytes) ∷ []) refl none).0

  accepts : PrintedAs c used pages after
  accepts =
      let (_, v) = accepted_reply (refusal (print_rows n order c used root bytes)) y.answer g in
      record {
        count = cc;
        can = checked_printable n order c used root checked;
        more = drop (length (sheet c used)) bytes;
        left = y.bytes_are ∙ ap (λ (k : ℕ). leaves k (sheet c used ++ drop (length (sheet c used)) bytes) bytes) none;
      }

  records : read_pages pages after ≡ map (λ k. (k + 2, record_in c k)) (below used)
  records = let a = accepts in rw (a.count, a.left) (sheet_read a.can a.more)

  read_as : records_read pages after ≡ records_in c used
  read_as = ap (map (λ e. e.1)) records ∙ map-map (λ e. e.1) (entry c) (below used)

  cells : (d : List ℕ) → used ≤ room d
      → (take (used * width) (laid_in d (records_read pages after)) ≡ take (used * width) c) × (length d ≡ length c → laid_in d (records_read pages after) ≡ c)
  cells d held =
      let s = shape n used root order c checked in
      let as-laid = laid_at c used s.fits s.clear d held in
      let long : length (laid_in d (records_in c used)) ≡ length d = laid-length d (records_in c used) in
      rw read_as (used_cells (laid_in d (records_in c used)) c used (omega arith) s.fits as-laid, laid_same c used s.fits s.clear d held)

-- what is printed is of the records alone
record_same : (c d : List ℕ) (used k : ℕ) → records_in d used ≡ records_in c used → k < used → record_in d k ≡ record_in c k
record_same c d used k e h =
    sym (map_below (record_in d) used k (record_in d 0) h)
    ∙ ap (λ (l : List RecordValues). get_or l k (record_in d 0)) e
    ∙ map_below (record_in c) used k (record_in d 0) h

line_same : (c d : List ℕ) (used : ℕ) → records_in d used ≡ records_in c used → (k : ℕ) → line_of d used k ≡ line_of c used k
line_same c d used e k =
    elim (dec_lt k used) [
      | yes h ↦ rw (lt-ltb k used h) (ap (record_line (k + 2)) (record_same c d used k e h))
      | no f ↦ let h : used ≤ k = omega arith in rw (le-ltb k used h)
    ]

-- by the lines of records
sheet_by : ℕ → (ℕ → List ℕ) → List ℕ
sheet_by used line = flat_map ended (flat_map (page_of line) (below (pages_for used)))

sheet-same : (c d : List ℕ) (used : ℕ) → records_in d used ≡ records_in c used → sheet d used ≡ sheet c used
unfolding sheet sheet_lines sheet_by
sheet-same c d used e = ap (sheet_by used) (fun_ext (line_same c d used e))

alone : (n m used root top pages more : ℕ) (order other c d bytes lent after left : List ℕ) (r q : Reply)
    → Prints n order c used root bytes r after → Gives r (pages ∷ []) → Prints m other d used top lent q left → Gives q (more ∷ [])
    → records_in d used ≡ records_in c used → (more ≡ pages) × (take (pages * page_bytes) left ≡ take (pages * page_bytes) after)
alone n m used root top pages more order other c d bytes lent after left r q x g y h e =
    let a = accepts n used root pages order c bytes after r x g in
    let b = accepts m used top more other d lent left q y h in
    let first : (rest : List ℕ) → take (pages * page_bytes) (sheet c used ++ rest) ≡ sheet c used =
    λ rest. take_at (sheet c used) rest (pages * page_bytes) (sheet_length a.can ∙ ap (λ (k : ℕ). k * page_bytes) (sym a.count)) in (
      b.count ∙ sym a.count,
      ap (take (pages * page_bytes)) (b.left ∙ ap (λ (l : List ℕ). l ++ b.more) (sheet-same c d used e))
          ∙ first b.more
          ∙ sym (first a.more)
          ∙ ap (take (pages * page_bytes)) (sym a.left),
    )

pub printed_sheet : PrintedSheet
printed_sheet =
    record {
      lines = lines;
      refuses = λ n used root order c bytes after q r x y. (
        as_check n used root order c bytes after q r x y,
        too_few n used root order c bytes after q r x y,
        enough n used root order c bytes after q r x y,
      );
      records = records;
      cells = cells;
      alone = alone;
    }
