-- `stretches::cell_count` meets its contract: the power fits, for at most ten flags.
-- Assumes nothing.
use Rattle.std.proofs.Common.{arith}
use Rattle.stretches.proofs.Starting.{cells_most}
use Rattle.stretches.proofs.cell_count.Goals as goal

pub pow-requires : goal.pow-requires
pow-requires c = omega (arith, cells_most c.args.n c.requires)
