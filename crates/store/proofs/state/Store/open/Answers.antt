-- `store::plain::Store::open` meets its contract: each way is an answer of Opened.antt.
-- Assumes nothing.
use mathlib.Core.Path.{refl}
use Rattle.theory.proofs.Refused.{positive}
use Rattle.store.specs.State.{state_of}
use Rattle.store.proofs.Opened.{open_refused, open_done}
use Rattle.store.proofs.state.Store.open.Goals as goal

pub returns-in-Err : goal.returns-in-Err
returns-in-Err c = open_refused (state_of c.args.self) c.args.cells.now _ c.in-Err.ensures (positive c.in-Err.refusal)

pub returns : goal.returns
returns c = rw c.clear_from.ensures (open_done (state_of c.args.self) c.args.cells.now c.in_default.ensures refl)
