-- What can be printed, and the lines of a page and of all pages: how many, and how long.
-- Assumes nothing.
use mathlib.Core.Path.{◌≡◌, refl, ap, ◌∙◌}
use mathlib.Core.List.{List, [], ◌∷◌, ◌++◌, map}
use mathlib.Core.Logic.{inl, inr}
use Prim.Native.Nat.{ℕ, zero, suc, ◌+◌, ◌*◌, ◌≤◌, ◌<◌}
use native.Mathlib.Decide.{dec_lt}
use native.Mathlib.Omega.{arith}
use borrow.Author.Tests.{ltb-false, not-false, lt-ltb, le-ltb}
use lib.ListN.{length, length-append, length-map}
use Rattle.rule.specs.Bits.{from, below}
use Rattle.rule.specs.Text.{text, decimal, line_end, right}
use Rattle.rule.specs.Cells.{most_records, record_in, flag_at, low_at, high_at}
use Rattle.rule.specs.Refusals.{refusal, check_rows}
use Rattle.rule.specs.Sheet.{line_length, record_lines, page_lines, node_places, flag_places, page_places, first_line, column, record_line, line_of, last_line, page_of, page_bytes, pages_for, sheet_lines, ended, sheet}
use Rattle.theory.proofs.Bits.{length_from, below_in}
use Rattle.theory.proofs.Member.{In, not-nil, cases_cons, append_cases, map-in}
use Rattle.theory.proofs.Flat.{flat_length, flat_in}
use Rattle.theory.proofs.Tests.{or_first}
use Rattle.theory.proofs.Refused.{passed}
use Rattle.theory.proofs.Sound.{sound_shape}
use Rattle.cells.proofs.Fit.{fit_length_lem}
use Rattle.runs.proofs.Digits.{digits_fit, digits-two}
use Rattle.runs.proofs.Blanks.{right-length}
use Rattle.paging.specs.Page.{Printable}

-- ---- what can be printed

-- the used records of whatever check accepts
pub checked_printable : (n : ℕ) (o c : List ℕ) (used root : ℕ) → refusal (check_rows n o c used root) ≡ 0 → Printable c used
checked_printable n o c used root z =
    let (ten, (_, (lent, (records, _)))) = passed (check_rows n o c used root) refl z in
    let few = ltb-false 10 n ten in
    let most = fit_length_lem c (not-false _ lent) in
    let s = sound_shape n o c used (not-false _ (or_first _ _ records)) in
    let held = s.fits in
    record {
      held = held;
      few = omega arith;
      flag = λ k h. omega (arith, s.flag k h);
      low = λ k h. omega (arith, s.low_smaller k h);
      high = λ k h. omega (arith, s.high_smaller k h);
    }

-- ---- a line

pub column-length : (places x : ℕ) → length (decimal x) ≤ places → length (column places x) ≡ suc places
column-length places x h = ap suc (right-length places x h)

ended-length : (line : List ℕ) → length line ≡ line_length → length (ended line) ≡ line_length + 1
ended-length line e = length-append line line_end ∙ omega arith

module _ {c : List ℕ} {used : ℕ} (p : Printable c used) where
  pub node_fits : (k : ℕ) → k < used → length (decimal (k + 2)) ≤ node_places
  node_fits k h = digits_fit (k + 2) (omega (arith, p.few))

  pub flag_fits : (k : ℕ) → k < used → length (decimal (flag_at c k)) ≤ flag_places
  flag_fits k h = digits-two (flag_at c k) (p.flag k h)

  pub low_fits : (k : ℕ) → k < used → length (decimal (low_at c k)) ≤ node_places
  low_fits k h = digits_fit (low_at c k) (p.low k h)

  pub high_fits : (k : ℕ) → k < used → length (decimal (high_at c k)) ≤ node_places
  high_fits k h = digits_fit (high_at c k) (p.high k h)

  record_length : (k : ℕ) → k < used → length (record_line (k + 2) (record_in c k)) ≡ line_length
  unfolding record_line
  record_length k h =
      let flag = column flag_places (flag_at c k) in
      let low = column node_places (low_at c k) in
      let high = column node_places (high_at c k) in
      omega (
        arith,
        length-append (right node_places (k + 2) ++ flag ++ low) high,
        length-append (right node_places (k + 2) ++ flag) low,
        length-append (right node_places (k + 2)) flag,
        right-length node_places (k + 2) (node_fits k h),
        column-length flag_places (flag_at c k) (flag_fits k h),
        column-length node_places (low_at c k) (low_fits k h),
        column-length node_places (high_at c k) (high_fits k h),
      )

  line_length_lem : (k : ℕ) → length (line_of c used k) ≡ line_length
  line_length_lem k =
      elim (dec_lt k used) [
        | yes h ↦ rw (lt-ltb k used h) (record_length k h)
        | no d ↦ let h : used ≤ k = omega arith in rw (le-ltb k used h)
      ]

last_length : (page : ℕ) → page < 65536 → length (last_line page) ≡ line_length
unfolding last_line text
last_length page h = omega (arith, right-length page_places page (omega (arith, digits_fit page h)))

-- ---- a page

pub page_length : (line : ℕ → List ℕ) (before : ℕ) → length (page_of line before) ≡ page_lines
page_length line before =
    let numbers = from (before * record_lines) record_lines in
    omega (
      arith,
      length-append (map line numbers) (last_line (before + 1) ∷ []),
      length-map numbers line,
      length_from (before * record_lines) record_lines,
    )

-- what holds of a page's first line, its last one, and those of records, holds of each line
page_each : (P : List ℕ → Type 0) (line : ℕ → List ℕ) (before : ℕ) → P first_line → ((k : ℕ) → P (line k)) → P (last_line (before + 1)) → (l : List ℕ)
    → In l (page_of line before) → P l
page_each P line before first records last l m =
    let numbers = from (before * record_lines) record_lines in
    elim (cases_cons m) [
      | inl e ↦ rw e first
      | inr i ↦ elim (append_cases (map line numbers) i) [
        | inl j ↦ let (k, _, e) = map-in line numbers j in rw (← e) (records k)
        | inr j ↦ elim (cases_cons j) [ inl e ↦ rw e last | inr z ↦ absurd (not-nil z) ]
      ]
    ]

-- ---- all pages

module _ (c : List ℕ) (used : ℕ) where
  pub sheet_each : (P : List ℕ → Type 0) → P first_line → ((k : ℕ) → P (line_of c used k)) → ((page : ℕ) → page ≤ pages_for used → P (last_line page))
      → (line : List ℕ) → In line (sheet_lines c used) → P line
  unfolding sheet_lines
  sheet_each P first records last line m =
      let (before, i, j) = flat_in (page_of (line_of c used)) (below (pages_for used)) m in
      page_each P (line_of c used) before first records (last (before + 1) (omega (arith, below_in i))) line j

  pub lines_count : length (sheet_lines c used) ≡ pages_for used * page_lines
  unfolding sheet_lines
  lines_count =
      flat_length (page_of (line_of c used)) page_lines (below (pages_for used)) (λ before i. page_length (line_of c used) before)
      ∙ ap (λ (k : ℕ). k * page_lines) (length_from 0 (pages_for used))

pub pages_le : (used : ℕ) → used ≤ most_records → pages_for used ≤ 18
pages_le zero h = omega arith
pages_le (suc k) h = omega arith

module _ {c : List ℕ} {used : ℕ} (p : Printable c used) where
  pub lines_length : (line : List ℕ) → In line (sheet_lines c used) → length line ≡ line_length
  unfolding text
  lines_length =
      sheet_each c used (λ line. length line ≡ line_length) refl (line_length_lem p) (λ page h. last_length page (omega (arith, pages_le used p.few)))

  pub sheet_length : length (sheet c used) ≡ pages_for used * page_bytes
  unfolding sheet
  sheet_length =
      flat_length ended (line_length + 1) (sheet_lines c used) (λ line m. ended-length line (lines_length line m))
      ∙ omega (arith, lines_count c used)
