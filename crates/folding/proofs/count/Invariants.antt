-- `folding::count` meets its contract: the counts are those of the ways passed.
-- Assumes nothing.
use mathlib.Core.Path.{◌≡◌}
use Prim.Native.Nat.{◌≤◌}
use lib.ListN.{length}
use Rattle.folding.specs.Fold.{differs, is_node}
use Rattle.folding.proofs.Counted.{passing}
use Rattle.folding.proofs.count.Given as goal

abbrev pub invariant-loop-i : goal.invariant-loop-i
invariant-loop-i l =
    (l.i ≤ length l.codes) × (l.nodes ≡ passing (is_node l.halves.source.now l.halves.p l.codes) l.i) × (l.ways ≡ passing (differs l.halves.source.now l.halves.p) l.i)
