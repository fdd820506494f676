-- `paging::line::Sheet::put_lines` meets its contract: the lines of the records passed are written.
-- Assumes nothing.
use mathlib.Core.Path.{◌≡◌}
use mathlib.Core.List.{map, flat_map}
use Prim.Native.Nat.{◌+◌, ◌*◌, ◌-◌}
use Rattle.rule.specs.Bits.{from}
use Rattle.rule.specs.Sheet.{line_length, line_of, ended}
use Rattle.runs.specs.Run.{Puts}
use Rattle.paging.proofs.line.Sheet.put_lines.Given as goal

abbrev pub invariant-loop-k : goal.invariant-loop-k
invariant-loop-k l =
    Puts l.initial.bytes l.at (flat_map ended (map (line_of l.self.cells.now l.self.used) (from l.first (l.k - l.first)))) l.next l.bytes
    × (l.next ≡ l.at + (l.k - l.first) * (line_length + 1))
