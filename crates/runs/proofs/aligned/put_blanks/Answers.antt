-- `runs::aligned::put_blanks` meets its contract: its places are filled with blanks.
-- Assumes nothing.
use native.Mathlib.Omega.{arith}
use lib.ListN.{length-replicate}
use borrow.Author.Rules.{rules}
use Rattle.runs.proofs.Puts.{puts_run}
use Rattle.runs.proofs.aligned.put_blanks.Goals as goal

pub returns : goal.returns
returns c = puts_run _ _ _ (search rules) (rw length-replicate (omega arith)) (omega arith)
