-- Printed pages, read: their lines, the numbers in a line, and the records.
-- Assumes nothing.
use mathlib.Core.Path.{◌≡◌, refl, sym, ap, ◌∙◌}
use mathlib.Core.Logic.{inl, inr}
use mathlib.Core.Bool.{Bool, true, false, not}
use mathlib.Core.List.{List, [], ◌∷◌, ◌++◌, map, flat_map, append_assoc, append-nil, map-append}
use Prim.Native.Nat.{ℕ, zero, suc, ◌+◌, ◌-◌, ◌*◌, ◌/◌, ◌%◌, ◌≤◌, ◌<◌}
use native.Mathlib.Decide.{dec_lt}
use native.Mathlib.Omega.{arith}
use borrow.Author.Tests.{lt-ltb, le-ltb, eq-eqb, ne_eqb, eqb-true, leb-true}
use lib.Dec.{eqb, leb}
use lib.ListN.{length, take, drop, replicate, length-append, length-map}
use lib.Seq.{take_at, drop_at, drop-append-add}
use Rattle.rule.specs.Bits.{from, below}
use Rattle.rule.specs.Tests.{each, keep}
use Rattle.rule.specs.Text.{text, digit_byte, decimal_in, decimal, line_end, read_line, blank, right}
use Rattle.rule.specs.Cells.{RecordValues, record_in, flag_at, low_at, high_at}
use Rattle.rule.specs.Sheet.{line_length, record_lines, page_lines, node_places, flag_places, page_places, first_line, column, record_line, line_of, last_line, page_of, pages_for, sheet_lines, ended, sheet, lines_in, number_from, number_at, read_record, in_use, records_on, read_lines, read_pages}
use Rattle.theory.proofs.Bits.{length_from, from-append}
use Rattle.theory.proofs.Member.{In, head, tail, not-nil, cases_cons, append_cases}
use Rattle.theory.proofs.Tests.{and_split, each_in, keep_append}
use Rattle.theory.proofs.Lines.{line_goes_on}
use Rattle.runs.proofs.Digits.{one_digit, more-digits}
use Rattle.runs.proofs.Blanks.{right-length}
use Rattle.paging.specs.Page.{Printable}
use Rattle.paging.proofs.Lines.{column-length, node_fits, flag_fits, low_fits, high_fits, page_length, sheet_each, lines_count}

-- ---- numbers

abbrev number_by : Bool → ℕ → ℕ → List ℕ → ℕ
number_by e x b bs = elim e [ true ↦ number_from x bs | false ↦ number_from (x * 10 + (b - digit_byte 0)) bs ]

-- one digit more
number_behind : (x : ℕ) (l : List ℕ) (d : ℕ) → number_from x (l ++ (digit_byte d ∷ [])) ≡ number_from x l * 10 + d
unfolding number_from
number_behind x [] d =
    let other : digit_byte d ≡ blank → ⊥ = λ e. omega arith in
    ap (λ (e : Bool). number_by e x (digit_byte d) []) (ne_eqb (digit_byte d) blank other) ∙ omega arith
number_behind x (b ∷ l) d = go (λ y. number_behind y l d) (eqb b blank)
  where
    go : ((y : ℕ) → number_from y (l ++ (digit_byte d ∷ [])) ≡ number_from y l * 10 + d)
        → (e : Bool) → number_by e x b (l ++ (digit_byte d ∷ [])) ≡ number_by e x b l * 10 + d
    go rest true = rest x
    go rest false = rest (x * 10 + (b - digit_byte 0))

-- the digits of a number stand for it
digits_read : (fuel x : ℕ) → x ≤ fuel → number_from 0 (decimal_in fuel x) ≡ x
unfolding decimal_in number_from
digits_read zero x h = number_behind 0 [] (x % 10) ∙ omega arith
digits_read (suc fuel) x h =
    elim (dec_lt x 10) [
      | yes l ↦ ap (number_from 0) (one_digit fuel x l) ∙ number_behind 0 [] x ∙ omega arith
      | no d ↦
          let l : 10 ≤ x = omega arith in
          ap (number_from 0) (more-digits fuel x l)
          ∙ number_behind 0 (decimal_in fuel (x / 10)) (x % 10)
          ∙ omega (arith, digits_read fuel (x / 10) (omega arith))
    ]

blanks_read : (x k : ℕ) (l : List ℕ) → number_from x (replicate k blank ++ l) ≡ number_from x l
unfolding number_from
blanks_read x zero l = refl
blanks_read x (suc k) l = blanks_read x k l

right_read : (places x : ℕ) → number_from 0 (right places x) ≡ x
right_read places x = blanks_read 0 (places - length (decimal x)) (decimal x) ∙ digits_read x x (omega arith)

-- blanks alone stand for no number
all_blank : (x k : ℕ) (l : List ℕ) → each (eqb blank) l ≡ true → number_from x (take k l) ≡ x
unfolding number_from each
all_blank x zero l e = refl
all_blank x (suc k) [] e = refl
all_blank x (suc k) (b ∷ l) e =
    let (f, g) = and_split (eqb blank b) (each (eqb blank) l) e in
    ap (λ (t : Bool). number_by t x b (take k l)) (eq-eqb b blank (sym (eqb-true blank b f))) ∙ all_blank x k l g

-- ---- a record line

-- the number in a column, behind so many characters
column_read : (a z : List ℕ) (places x start : ℕ) → length (decimal x) ≤ places → start ≡ length a + 1 → number_at (a ++ column places x ++ z) start places ≡ x
column_read a z places x start h e =
    let number = right places x in
    let behind : drop start (a ++ column places x ++ z) ≡ number ++ z =
    ap (λ (k : ℕ). drop k (a ++ column places x ++ z)) e
    ∙ ap (drop (length a + 1)) (append_assoc a (column places x) z)
    ∙ drop-append-add a (column places x ++ z) 1 in
    ap (λ (l : List ℕ). number_from 0 (take places l)) behind
    ∙ ap (number_from 0) (take_at number z places (right-length places x h))
    ∙ right_read places x

module _ {c : List ℕ} {used : ℕ} (p : Printable c used) (k : ℕ) (h : k < used) where
  node : List ℕ
  node = right node_places (k + 2)

  flag : List ℕ
  flag = column flag_places (flag_at c k)

  low : List ℕ
  low = column node_places (low_at c k)

  high : List ℕ
  high = column node_places (high_at c k)

  node_read : number_at (record_line (k + 2) (record_in c k)) 0 node_places ≡ k + 2
  unfolding record_line node flag low high
  node_read =
      ap (λ (l : List ℕ). number_from 0 (take node_places l)) (append_assoc (node ++ flag) low high ∙ append_assoc node flag (low ++ high))
      ∙ ap (number_from 0) (take_at node (flag ++ (low ++ high)) node_places (right-length node_places (k + 2) (node_fits p k h)))
      ∙ right_read node_places (k + 2)

  node_end : length node ≡ 5
  unfolding node
  node_end = right-length node_places (k + 2) (node_fits p k h)

  flag_end : length (node ++ flag) ≡ 8
  unfolding flag
  flag_end = length-append node flag ∙ omega (arith, node_end, column-length flag_places (flag_at c k) (flag_fits p k h))

  flag_read : number_at (record_line (k + 2) (record_in c k)) 6 flag_places ≡ flag_at c k
  unfolding record_line node flag low high
  flag_read =
      ap (λ (l : List ℕ). number_at l 6 flag_places) (append_assoc (node ++ flag) low high)
      ∙ column_read node (low ++ high) flag_places (flag_at c k) 6 (flag_fits p k h) (omega (arith, node_end))

  low_read : number_at (record_line (k + 2) (record_in c k)) 9 node_places ≡ low_at c k
  unfolding record_line node flag low high
  low_read = column_read (node ++ flag) high node_places (low_at c k) 9 (low_fits p k h) (omega (arith, flag_end))

  high_read : number_at (record_line (k + 2) (record_in c k)) 15 node_places ≡ high_at c k
  unfolding record_line node flag low high
  high_read =
      ap (λ (l : List ℕ). number_at l 15 node_places) (sym (append-nil (node ++ flag ++ low ++ high)))
      ∙ column_read (node ++ flag ++ low) [] node_places (high_at c k) 15 (high_fits p k h)
      (omega (arith, length-append (node ++ flag) low, flag_end, column-length node_places (low_at c k) (low_fits p k h)))

  record_read : read_record (record_line (k + 2) (record_in c k)) ≡ (k + 2, record_in c k)
  record_read = rw (node_read, flag_read, low_read, high_read)

  -- it is no line of blanks, which would have no node
  record_in_use : in_use (record_line (k + 2) (record_in c k)) ≡ true
  record_in_use = go (each (eqb blank) (record_line (k + 2) (record_in c k))) refl
    where
      go : (b : Bool) → each (eqb blank) (record_line (k + 2) (record_in c k)) ≡ b → not b ≡ true
      go true e = let none = all_blank 0 node_places (record_line (k + 2) (record_in c k)) e in absurd (omega (arith, node_read))
      go false e = refl

-- ---- the records of lines

-- record k with its node
abbrev pub entry : List ℕ → ℕ → ℕ × RecordValues
entry c k = (k + 2, record_in c k)

records-append : (l m : List (List ℕ)) → records_on (l ++ m) ≡ records_on l ++ records_on m
records-append l m = ap (map read_record) (keep_append in_use l m) ∙ map-append read_record (keep in_use l) (keep in_use m)

module _ {c : List ℕ} {used : ℕ} (p : Printable c used) where
  used_lines : (a k : ℕ) → a + k ≤ used → records_on (map (line_of c used) (from a k)) ≡ map (entry c) (from a k)
  unfolding from keep
  used_lines a zero h = refl
  used_lines a (suc k) h =
      let l : a < used = omega arith in
      rw (lt-ltb a used l, record_in_use p a l, record_read p a l) (ap (λ (r : List (ℕ × RecordValues)). (a + 2, record_in c a) ∷ r) (used_lines (suc a) k (omega arith)))

unused_lines : (c : List ℕ) (used a k : ℕ) → used ≤ a → records_on (map (line_of c used) (from a k)) ≡ []
unfolding from keep each
unused_lines c used a zero h = refl
unused_lines c used a (suc k) h = rw (le-ltb a used h) (unused_lines c used (suc a) k (omega arith))

-- ---- the lines of pages

module _ (line : ℕ → List ℕ) where
  first_page : (a pages : ℕ) → flat_map (page_of line) (from a (suc pages)) ≡ page_of line a ++ flat_map (page_of line) (from (suc a) pages)
  unfolding flat_map from
  first_page a pages = refl

  -- the record lines of a page, with more lines behind it
  page_records : (before : ℕ) (rest : List (List ℕ))
      → take record_lines (drop 1 (page_of line before ++ rest)) ≡ map line (from (before * record_lines) record_lines)
  page_records before rest =
      let numbers = from (before * record_lines) record_lines in
      let last = last_line (before + 1) in
      let records = map line numbers in
      ap (take record_lines) (append_assoc records (last ∷ []) rest)
      ∙ take_at records (last ∷ rest) record_lines (length-map numbers line ∙ length_from (before * record_lines) record_lines)

  none : (a : ℕ) → records_on (map line (from a 0)) ≡ []
  unfolding from keep
  none a = refl

  pages_read : (pages a : ℕ)
      → read_lines pages (flat_map (page_of line) (from a pages)) ≡ records_on (map line (from (a * record_lines) (pages * record_lines)))
  unfolding read_lines
  pages_read zero a = sym (none (a * record_lines))
  pages_read (suc pages) a =
      let rest = flat_map (page_of line) (from (suc a) pages) in
      let own = from (a * record_lines) record_lines in
      let behind = from (a * record_lines + record_lines) (pages * record_lines) in
      let next : suc a * record_lines ≡ a * record_lines + record_lines = omega arith in
      let all : suc pages * record_lines ≡ record_lines + pages * record_lines = omega arith in
      ap (read_lines (suc pages)) (first_page a pages)
      ∙ ap (λ (l : List (List ℕ)). records_on l ++ read_lines pages (drop page_lines (page_of line a ++ rest))) (page_records a rest)
      ∙ ap (λ (l : List (List ℕ)). records_on (map line own) ++ read_lines pages l) (drop_at (page_of line a) rest page_lines (page_length line a))
      ∙ ap (λ (l : List (ℕ × RecordValues)). records_on (map line own) ++ l)
      (pages_read pages (suc a) ∙ ap (λ (k : ℕ). records_on (map line (from k (pages * record_lines)))) next)
      ∙ sym (records-append (map line own) (map line behind))
      ∙ ap records_on (sym (map-append line own behind))
      ∙ ap (λ (l : List ℕ). records_on (map line l)) (sym (from-append (a * record_lines) record_lines (pages * record_lines)))
      ∙ ap (λ (k : ℕ). records_on (map line (from (a * record_lines) k))) (sym all)

-- there are pages for all records
pages_enough : (used : ℕ) → used ≤ pages_for used * record_lines
pages_enough zero = omega arith
pages_enough (suc k) = omega arith

lines_read : {c : List ℕ} {used : ℕ} → Printable c used → read_lines (pages_for used) (sheet_lines c used) ≡ map (entry c) (below used)
unfolding sheet_lines
lines_read {c} {used} p =
    let spare = pages_for used * record_lines - used in
    let all : pages_for used * record_lines ≡ used + spare = omega (arith, pages_enough used) in
    let more : 0 + used ≡ used = omega arith in
    pages_read (line_of c used) (pages_for used) 0
    ∙ ap (λ (k : ℕ). records_on (map (line_of c used) (from 0 k))) all
    ∙ ap (λ (l : List ℕ). records_on (map (line_of c used) l)) (from-append 0 used spare)
    ∙ ap records_on (map-append (line_of c used) (below used) (from (0 + used) spare))
    ∙ records-append (map (line_of c used) (below used)) (map (line_of c used) (from (0 + used) spare))
    ∙ ap (λ (l : List (ℕ × RecordValues)). records_on (map (line_of c used) (below used)) ++ l) (unused_lines c used (0 + used) spare (omega arith))
    ∙ append-nil _
    ∙ used_lines p 0 used (omega arith)

-- ---- bytes in lines

-- no byte of a line is its end
abbrev Plain : List ℕ → Type 0
Plain line = (b : ℕ) → In b line → 32 ≤ b

line_back : (line more : List ℕ) → Plain line → read_line (line ++ (0x0A ∷ more)) ≡ (line, more)
unfolding read_line
line_back [] more h = refl
line_back (b ∷ line) more h =
    let other : b ≡ 0x0A → ⊥ = λ e. omega (arith, h b (head refl)) in
    line_goes_on b (line ++ (0x0A ∷ more)) other
    ∙ ap (λ (r : List ℕ × List ℕ). (b ∷ r.0, r.1)) (line_back line more (λ d m. h d (tail m)))

lines_back : (lines : List (List ℕ)) (more : List ℕ) → ((line : List ℕ) → In line lines → Plain line) → lines_in (length lines) (flat_map ended lines ++ more) ≡ lines
unfolding lines_in flat_map
lines_back [] more h = refl
lines_back (line ∷ lines) more h =
    let split : line ++ line_end ++ flat_map ended lines ++ more ≡ line ++ (0x0A ∷ (flat_map ended lines ++ more)) =
    append_assoc (line ++ line_end) (flat_map ended lines) more ∙ append_assoc line line_end (flat_map ended lines ++ more) in
    rw (split, line_back line (flat_map ended lines ++ more) (h line (head refl)), lines_back lines more (λ l m. h l (tail m)))

-- ---- the lines of a sheet are such

append_plain : (l : List ℕ) {m : List ℕ} → Plain l → Plain m → Plain (l ++ m)
append_plain l p q b i = elim (append_cases l i) [ inl j ↦ p b j | inr j ↦ q b j ]

digit_plain : (d : ℕ) → Plain (digit_byte d ∷ [])
digit_plain d b i = elim (cases_cons i) [ inl e ↦ omega arith | inr z ↦ absurd (not-nil z) ]

digits_plain : (fuel x : ℕ) → Plain (decimal_in fuel x)
unfolding decimal_in
digits_plain zero x = digit_plain (x % 10)
digits_plain (suc fuel) x =
    elim (dec_lt x 10) [
      | yes l ↦ rw (one_digit fuel x l) (digit_plain x)
      | no d ↦
          let l : 10 ≤ x = omega arith in
          rw (more-digits fuel x l) (append_plain (decimal_in fuel (x / 10)) (digits_plain fuel (x / 10)) (digit_plain (x % 10)))
    ]

blanks_plain : (k : ℕ) → Plain (replicate k blank)
blanks_plain zero b i = absurd (not-nil i)
blanks_plain (suc k) b i = elim (cases_cons i) [ inl e ↦ omega arith | inr j ↦ blanks_plain k b j ]

right_plain : (places x : ℕ) → Plain (right places x)
right_plain places x = append_plain (replicate (places - length (decimal x)) blank) (blanks_plain (places - length (decimal x))) (digits_plain x x)

column_plain : (places x : ℕ) → Plain (column places x)
column_plain places x b i = elim (cases_cons i) [ inl e ↦ omega arith | inr j ↦ right_plain places x b j ]

text_plain : (line : List ℕ) → each (leb 32) line ≡ true → Plain line
text_plain line e b i = leb-true 32 b (each_in (leb 32) line e i)

line_plain : (c : List ℕ) (used k : ℕ) → Plain (line_of c used k)
unfolding record_line
line_plain c used k =
    elim (dec_lt k used) [
      | yes h ↦ rw (lt-ltb k used h)
          (append_plain (right node_places (k + 2) ++ column flag_places (flag_at c k) ++ column node_places (low_at c k))
          (append_plain (right node_places (k + 2) ++ column flag_places (flag_at c k))
          (append_plain (right node_places (k + 2)) (right_plain node_places (k + 2)) (column_plain flag_places (flag_at c k)))
          (column_plain node_places (low_at c k)))
          (column_plain node_places (high_at c k)))
      | no d ↦ let h : used ≤ k = omega arith in rw (le-ltb k used h) (blanks_plain line_length)
    ]

sheet_plain : (c : List ℕ) (used : ℕ) (line : List ℕ) → In line (sheet_lines c used) → Plain line
unfolding text each last_line
sheet_plain c used =
    sheet_each c used Plain (text_plain first_line refl) (line_plain c used) (λ page h. append_plain (text "page") (text_plain (text "page") refl) (right_plain page_places page))

-- so they are read back, whatever is behind them
pub sheet_lines_lem : (c : List ℕ) (used : ℕ) (more : List ℕ) → lines_in (pages_for used * page_lines) (sheet c used ++ more) ≡ sheet_lines c used
unfolding sheet
sheet_lines_lem c used more =
    ap (λ (k : ℕ). lines_in k (flat_map ended (sheet_lines c used) ++ more)) (sym (lines_count c used)) ∙ lines_back (sheet_lines c used) more (sheet_plain c used)

pub sheet_read : {c : List ℕ} {used : ℕ} → Printable c used → (more : List ℕ) → read_pages (pages_for used) (sheet c used ++ more) ≡ map (entry c) (below used)
sheet_read {c} {used} p more = ap (read_lines (pages_for used)) (sheet_lines_lem c used more) ∙ lines_read p
