-- `printing::call::put_sheet` meets its contract: the pages passed are written.
-- Assumes nothing.
use mathlib.Core.Path.{◌≡◌}
use mathlib.Core.List.{flat_map}
use Prim.Native.Nat.{◌*◌, ◌≤◌}
use lib.ListN.{length}
use Rattle.rule.specs.Bits.{below}
use Rattle.rule.specs.Sheet.{line_of, page_of, page_bytes, pages_for, ended}
use Rattle.runs.specs.Run.{Puts}
use Rattle.printing.proofs.call.put_sheet.Given as goal

abbrev pub invariant-loop-page : goal.invariant-loop-page
invariant-loop-page l =
    (l.page ≤ l.count) × (l.count ≡ pages_for l.records.used) × (length l.bytes ≡ length l.initial.bytes)
    × Puts l.initial.bytes 0 (flat_map ended (flat_map (page_of (line_of l.records.cells.now l.records.used)) (below l.page))) l.next l.bytes × (l.next ≡ l.page * page_bytes)
