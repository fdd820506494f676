-- `provoking::aim::ones_fixed` meets its contract: of each flag passed the bit of the one set is at most that of the other.
-- Assumes nothing.
use Prim.Native.Nat.{ℕ, ◌≤◌, ◌<◌}
use Rattle.rule.specs.Bits.{bit}
use Rattle.provoking.proofs.aim.ones_fixed.Given as goal

abbrev pub invariant-loop-i : goal.invariant-loop-i
invariant-loop-i l = (k : ℕ) → k < l.i → bit l.ones k ≤ bit l.fixed k
