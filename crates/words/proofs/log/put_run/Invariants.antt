-- `words::log::put_run` meets its contract: the place stays within the lent bytes.
-- Assumes nothing.
use Rattle.std.proofs.Common.{◌≤◌, length}
use Rattle.words.proofs.log.put_run.Given as goal

abbrev pub invariant-loop : goal.invariant-loop
invariant-loop l = l.end ≤ length l.out
