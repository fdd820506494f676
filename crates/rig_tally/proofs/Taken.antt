-- A line that is taken, the first bytes of an input up to a place: the rows that are read of it, and their flags.
-- Assumes nothing.
use mathlib.Core.Path.{◌≡◌, refl, sym, ap, ◌∙◌}
use mathlib.Core.Bool.{true}
use mathlib.Core.List.{List}
use Prim.Native.Nat.{ℕ, ◌-◌, ◌^◌, ◌≤◌}
use native.Mathlib.Nat.{sub-zero}
use native.Mathlib.Omega.{arith}
use borrow.Author.Tests.{ltb-false, not-false}
use lib.ListN.{length, take}
use Rattle.rule.specs.Tests.{each}
use Rattle.rule.specs.Table.{fit_rows}
use Rattle.rule.specs.Refusals.{refusal}
use Rattle.rule.specs.Text.{read_line}
use Rattle.rule.specs.Listing.{most_rows, is_digit, flags_of, rows_of, line_rows}
use Rattle.theory.proofs.Refused.{passed}
use Rattle.parsing.proofs.FirstLine.{rows_power}
use Rattle.parsing.proofs.Characters.{rows_fit, rows_length}

pub record Taken (input : List ℕ) (end : ℕ) : Type 0 where
  pub up_to : take end input ≡ (read_line input).0
  pub passes : refusal (line_rows (take (end - 0) input)) ≡ 0

-- a line that was found and passed its tests
pub line_taken : (input : List ℕ) (end : ℕ) → (end ≤ length input) × (take end input ≡ (read_line input).0)
    → 0 ≡ refusal (line_rows (take (end - 0) input)) → Taken input end
line_taken input end found is = record { up_to = found.1; passes = sym is }

module _ {input : List ℕ} {end : ℕ} (x : Taken input end) where
  abbrev line : List ℕ
  line = take (end - 0) input

  is_line : line ≡ (read_line input).0
  is_line = rw sub-zero x.up_to

  fits : (length line ≤ most_rows) × (flags_of line ≤ 10) × (each is_digit line ≡ true)
  fits =
      let (a, (b, (c, _))) = passed (line_rows line) refl x.passes in
      (ltb-false most_rows (length line) a, ltb-false 10 (flags_of line) b, not-false _ c)

  pub rows_are : {t : List ℕ} → t ≡ rows_of line → t ≡ rows_of (read_line input).0
  rows_are q = q ∙ ap rows_of is_line

  module _ {n : ℕ} (p : n ≡ flags_of line) where
    pub flags_are : n ≡ flags_of (read_line input).0
    flags_are = p ∙ ap flags_of is_line

    pub few : n ≤ 10
    few = omega (arith, flags_are, ap flags_of is_line, fits.1)

    pub table_fits : {t : List ℕ} → t ≡ rows_of (read_line input).0 → (n ≤ 10) × (length t ≡ 2 ^ n) × (fit_rows t ≡ true)
    table_fits q = (
      few,
      ap length (q ∙ ap rows_of (sym is_line))
          ∙ rows_length line
          ∙ rows_power (length line) fits.1
          ∙ ap (λ (m : ℕ). 2 ^ m) (ap flags_of is_line ∙ sym flags_are),
      ap fit_rows (q ∙ ap rows_of (sym is_line)) ∙ rows_fit line fits.2,
    )
