-- `walking::steps::descend` meets its contract: the walk goes on from the node that is reached, whose number falls, and the flags asked so far are those before it.
-- Assumes nothing.
use Prim.Native.Nat.{◌+◌, ◌≤◌}
use Rattle.walking.proofs.Walked.{Underway}
use Rattle.walking.proofs.steps.descend.Given as goal

abbrev pub invariant-loop-m : goal.invariant-loop-m
invariant-loop-m l = (l.m ≤ l.used + 1) × Underway l.cells l.node l.row l.m l.asked l.count

abbrev pub decreases-loop-m : goal.decreases-loop-m
decreases-loop-m l = l.m
