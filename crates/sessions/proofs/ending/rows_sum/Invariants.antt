-- `sessions::ending::rows_sum` meets its contract: the sum stays below what it is taken by.
-- Assumes nothing.
use Prim.Native.Nat.{◌<◌}
use Rattle.sessions.proofs.ending.rows_sum.Given as goal

abbrev pub invariant-loop-r : goal.invariant-loop-r
invariant-loop-r l = l.sum < 65521
