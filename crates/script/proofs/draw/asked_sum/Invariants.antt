-- `script::draw::asked_sum` meets its contract: the sum stays below the modulus.
-- Assumes nothing.
use Rattle.std.proofs.Common.{◌<◌}
use Rattle.script.proofs.draw.asked_sum.Given as goal

abbrev pub invariant-loop-row : goal.invariant-loop-row
invariant-loop-row l = l.sum < 65521
