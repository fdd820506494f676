-- `report::count::asking` meets its contract: the count is that of the records passed.
-- Assumes nothing.
use mathlib.Core.Path.{◌≡◌}
use Prim.Native.Nat.{◌≤◌}
use Rattle.rule.specs.Diagram.{asking}
use Rattle.report.proofs.count.asking.Given as goal

abbrev pub invariant-loop-k : goal.invariant-loop-k
invariant-loop-k l = (l.count ≡ asking l.cells l.k l.v) × (l.count ≤ l.k)
