-- `rig_tally::whole::rig_tally` meets its contract: the line's refusal is printed, or the reply to the log behind it.
-- Assumes nothing.
use mathlib.Core.Path.{◌∙◌}
use native.Mathlib.Nat.{sub-zero}
use native.Mathlib.Omega.{arith}
use borrow.Author.Rules.{rules}
use Rattle.rule.specs.Text.{text}
use Rattle.theory.proofs.Refused.{positive}
use Rattle.runs.proofs.Puts.{puts_within}
use Rattle.rig_tally.proofs.Behind.{part-from}
use Rattle.rig_tally.proofs.Taken.{line_taken, rows_are, flags_are, table_fits}
use Rattle.rig_tally.proofs.Printed.{refused_printed, played_printed}
use Rattle.rig_tally.proofs.whole.rig_tally.Goals as goal

pub returns-in-Err : goal.returns-in-Err
unfolding text
returns-in-Err c =
    let line = rw (sub-zero, c.line_end-end.ensures.1) at c.in-Err.ensures in
    let put = c.put_line.ensures.0 in
    let printed = refused_printed c.args.input.now line (positive c.in-Err.refusal) in
    (rw (← printed, ← c.number.ensures) put, omega (arith, puts_within put (omega arith) (search rules)))

pub play-tallied-requires : goal.play-tallied-requires
play-tallied-requires c =
    let line = line_taken c.args.input.now _ c.line_end-end.ensures c.in_default.ensures in
    table_fits line c.flags_of-n.ensures.0 (rows_are line c.read_rows.ensures)

pub returns : goal.returns
returns c =
    let input = c.args.input.now in
    let line = line_taken input _ c.line_end-end.ensures c.in_default.ensures in
    let behind = part-from input c.log_start-start.result ∙ c.log_start-start.ensures.1 in
    let n = flags_are line c.flags_of-n.ensures.0 in
    let rows = rows_are line c.read_rows.ensures in
    let put = c.put_tallied.ensures in
    let passed = rw (sub-zero, line.up_to) at c.in_default.ensures in
    let printed = played_printed input passed n rows behind c.play-tallied.ensures in
    (rw (← printed) put, omega (arith, puts_within put (omega arith) (search rules)))
