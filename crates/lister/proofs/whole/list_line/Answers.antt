-- `lister::whole::list_line` meets its contract: a refused line, or the listing of the rows that it stands for.
-- Assumes nothing.
use mathlib.Core.Path.{sym, ap, ◌∙◌}
use Prim.Native.Nat.{ℕ, ◌^◌}
use native.Mathlib.Omega.{arith}
use lib.ListN.{length}
use Rattle.rule.specs.Table.{fit_rows}
use Rattle.rule.specs.Text.{text}
use Rattle.theory.proofs.Refused.{positive}
use Rattle.parsing.proofs.FirstLine.{rows_power}
use Rattle.parsing.proofs.Characters.{rows_fit, rows_length}
use Rattle.lister.proofs.Listed.{line_refused, line_fits}
use Rattle.lister.proofs.whole.list_line.Goals as goal

pub returns-in-Err : goal.returns-in-Err
unfolding text
returns-in-Err c =
    rw (← line_refused c.args.line.now c.in-Err.ensures _ _ (positive c.in-Err.refusal), ← c.number.ensures) c.put_line.ensures.0

pub list_table-requires : goal.list_table-requires
list_table-requires c =
    let line = c.args.line.now in
    let (_, few, digits) = line_fits line c.in_default.ensures in
    let rows = c.read_rows.ensures in
    let n = c.flags_of.ensures.0 in (
      omega (arith, few, n),
      ap length rows ∙ rows_length line ∙ rows_power (length line) few ∙ ap (λ (k : ℕ). 2 ^ k) (sym n),
      ap fit_rows rows ∙ rows_fit line digits,
      omega (arith, c.requires),
    )
