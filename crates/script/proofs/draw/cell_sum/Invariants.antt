-- `script::draw::cell_sum` meets its contract: the sum stays below the modulus.
-- Assumes nothing.
use Rattle.std.proofs.Common.{◌<◌}
use Rattle.script.proofs.draw.cell_sum.Given as goal

abbrev pub invariant-loop-cell : goal.invariant-loop-cell
invariant-loop-cell l = l.sum < 65521
