-- `report::lines::put_flags` meets its contract: the lines of the flags passed are written.
-- Assumes nothing.
use Prim.Native.Nat.{◌+◌, ◌*◌, ◌≤◌}
use Rattle.rule.specs.Bits.{below}
use Rattle.rule.specs.Diagram.{asking}
use Rattle.rule.specs.Listing.{flag_lines}
use Rattle.runs.specs.Run.{Puts}
use Rattle.report.proofs.lines.put_flags.Given as goal

abbrev pub invariant-loop-v : goal.invariant-loop-v
invariant-loop-v l =
    Puts l.initial.out l.at (flag_lines (asking l.cells l.used) (below l.v)) l.next l.out × (l.next ≤ l.at + l.v * 17)
