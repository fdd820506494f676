-- `runs::run::put_byte` meets its contract: one store.
-- Assumes nothing.
use Rattle.runs.proofs.Puts.{puts_one}
use Rattle.runs.proofs.run.put_byte.Goals as goal

pub returns : goal.returns
returns c = puts_one _ _ _ c.requires
