-- `sessions::ending::sum` meets its contract: the sum stays below what it is taken by.
-- Assumes nothing.
use Prim.Native.Nat.{◌<◌}
use Rattle.sessions.proofs.ending.sum.Given as goal

abbrev pub invariant-loop-k : goal.invariant-loop-k
invariant-loop-k l = l.sum < 65521
