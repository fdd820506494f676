-- `report::lines::put_places` meets its contract: the places passed are written.
-- Assumes nothing.
use Prim.Native.Nat.{◌+◌, ◌*◌, ◌≤◌}
use lib.ListN.{take}
use Rattle.rule.specs.Listing.{numbers}
use Rattle.runs.specs.Run.{Puts}
use Rattle.report.proofs.lines.put_places.Given as goal

abbrev pub invariant-loop-flag : goal.invariant-loop-flag
invariant-loop-flag l =
    Puts l.initial.out l.at (numbers (take l.flag-index l.flag-items)) l.next l.out × (l.next ≤ l.at + l.flag-index * 6)
