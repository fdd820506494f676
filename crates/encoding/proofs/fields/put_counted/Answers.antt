-- `encoding::fields::put_counted` meets its contract: nothing, or the count and the records behind it.
-- Assumes nothing.
use mathlib.Core.List.{◌++◌}
use native.Mathlib.Omega.{arith}
use Rattle.rule.specs.Cells.{records_in}
use Rattle.rule.specs.Files.{two, record_bytes}
use Rattle.runs.proofs.Puts.{puts_none, puts_more}
use Rattle.encoding.proofs.Puts.{some_list, some_long, length_records}
use Rattle.encoding.proofs.fields.put_counted.Goals as goal

pub returns-then-used-eq0 : goal.returns-then-used-eq0
returns-then-used-eq0 c = rw c.if-used-eq0.true (puts_none _ _)

pub put_two-next-requires : goal.put_two-next-requires
put_two-next-requires c =
    let used = c.args.used in
    let run = two used ++ record_bytes (records_in c.args.cells.now used) in
    omega (arith, c.requires.2, some_long used run c.if-used-eq0.false)

pub put_records-requires : goal.put_records-requires
put_records-requires c =
    let used = c.args.used in
    let cells = c.args.cells.now in
    let run = two used ++ record_bytes (records_in cells used) in (
      c.requires.0,
      c.requires.1,
      omega (arith, c.requires.2, some_long used run c.if-used-eq0.false, length_records cells used, c.put_two-next.ensures.next_is),
    )

pub returns : goal.returns
returns c =
    let used = c.args.used in
    let run = two used ++ record_bytes (records_in c.args.cells.now used) in
    rw (← some_list used run c.if-used-eq0.false)
    (puts_more (omega (arith, c.requires.2, some_long used run c.if-used-eq0.false)) c.put_two-next.ensures c.put_records.ensures)
