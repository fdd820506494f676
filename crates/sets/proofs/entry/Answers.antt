-- `sets::entry` meets its contract: a table that passes the test is the definition's list.
-- Assumes nothing.
use Rattle.sets.proofs.Sequence.{entry_is}
use Rattle.sets.proofs.entry.Goals as goal

pub returns : goal.returns
returns c = entry_is c.args.table.now c.requires.0 c.args.i c.requires.1
