-- `lister::whole::list_table` meets its contract: what pack answers is what is listed.
-- Assumes nothing.
use Prim.Native.Nat.{ℕ}
use native.Mathlib.Omega.{arith}
use lib.ListN.{length-replicate}
use Rattle.rule.specs.Cells.{most_cells}
use Rattle.rule.specs.Text.{text}
use Rattle.rule.specs.Listing.{workspace_cells}
use Rattle.lister.proofs.Listed.{pack_refused, packed_few, packed_room, rows_few, pack_listed}
use Rattle.lister.proofs.whole.list_table.Goals as goal

pub put_report-requires : goal.put_report-requires
put_report-requires c =
    let n = c.args.n in
    let t = c.args.table.now in
    let pre = c.requires in
    let packed = c.in-Ok.ensures in
    let cs = length-replicate {A = ℕ} most_cells 0 in
    let ws = length-replicate {A = ℕ} workspace_cells 0 in (
      packed_few n t _ _ pre.0 pre.1 pre.2 cs ws packed,
      rows_few n t pre.0 pre.1,
      packed_room n t _ _ pre.0 pre.1 pre.2 cs ws packed,
      omega (arith, pre.3),
    )

pub returns-in-Err : goal.returns-in-Err
unfolding text
returns-in-Err c =
    let pre = c.requires in
    rw (
      ← pack_refused c.args.n c.args.table.now _ _ pre.0 pre.1 pre.2 (length-replicate {A = ℕ} most_cells 0) (length-replicate {A = ℕ} workspace_cells 0)
          c.in-Err.ensures,
      ← c.number.ensures,
    )
    c.put_line.ensures.0

pub returns-in-Ok : goal.returns-in-Ok
returns-in-Ok c =
    let pre = c.requires in
    rw (← pack_listed c.args.n c.args.table.now _ _ pre.0 pre.1 pre.2 (length-replicate {A = ℕ} most_cells 0) (length-replicate {A = ℕ} workspace_cells 0) c.in-Ok.ensures)
    c.put_report.ensures
