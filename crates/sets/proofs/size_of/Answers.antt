-- `sets::size_of` meets its contract: the machine's count of ones is that of the ten-bit number.
-- Assumes nothing.
use lib.Count.{ones-le}
use Rattle.sets.proofs.Size.{ones_counted}
use Rattle.sets.proofs.size_of.Goals as goal

pub returns : goal.returns
returns c = record { is = ones_counted 10 c.args.set c.requires; most = ones-le 10 c.args.set c.requires }
