-- Whether a row is there, and the pass rule allows it: by the walk of its node.
-- Assumes nothing.
use mathlib.Core.Path.{◌≡◌, sym, ◌∙◌}
use mathlib.Core.List.{List}
use mathlib.Core.Option.{some}
use Prim.Native.Nat.{ℕ, ◌^◌, ◌<◌}
use borrow.Author.Tests.{lt-leb, eq-eqb, ne_eqb}
use Rattle.rule.specs.Walk.{walk}
use Rattle.rule.specs.Refusals.{refusal, row_rows}
use Rattle.theory.proofs.Walks.{table_row}

module _ (n : ℕ) (c : List ℕ) (p row : ℕ) where
  module _ (l : row < 2 ^ n) {end : ℕ} (e : end ≡ walk c p row) where
    pub row_forbidden : end ≡ 0 → 14 ≡ refusal (row_rows n c (some p) row)
    row_forbidden z = rw (lt-leb (2 ^ n) row l, eq-eqb _ 0 (table_row n c p row l ∙ sym e ∙ z))

    pub row_taken : (end ≡ 0 → ⊥) → 0 ≡ refusal (row_rows n c (some p) row)
    row_taken d = rw (lt-leb (2 ^ n) row l, ne_eqb _ 0 (λ z. d (e ∙ sym (table_row n c p row l) ∙ z)))
