-- `rig_tally::lines::put_asked` meets its contract: the numbers of the flags passed are written.
-- Assumes nothing.
use mathlib.Core.Path.{◌≡◌}
use mathlib.Core.List.{flat_map}
use Prim.Native.Nat.{◌+◌, ◌*◌, ◌≤◌}
use lib.ListN.{length, take}
use Rattle.rule.specs.RigTally.{number_line}
use Rattle.runs.specs.Run.{Puts}
use Rattle.rig_tally.proofs.lines.put_asked.Given as goal

abbrev pub invariant-loop-v : goal.invariant-loop-v
invariant-loop-v l =
    (l.v ≤ l.n) × (length l.out ≡ length l.initial.out) × Puts l.initial.out l.at (flat_map number_line (take l.v l.asked)) l.next l.out × (l.next ≤ l.at + l.v * 6) × (length l.asked ≡ 10)
