-- `runs::run::put_run` meets its contract: the run is copied into its places.
-- Assumes nothing.
use native.Mathlib.Omega.{arith}
use Rattle.runs.proofs.Puts.{puts_run}
use Rattle.runs.proofs.run.put_run.Goals as goal

pub returns : goal.returns
returns c = puts_run _ _ _ c.copy_from_slice.ensures.after (omega arith) (omega arith)
