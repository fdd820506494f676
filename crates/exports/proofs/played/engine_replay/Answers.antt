-- `exports::played::engine_replay` meets its contract: the number is that of replay's own reply, and the flags' numbers are written where it is accepted.
-- Assumes nothing.
use mathlib.Core.Path.{refl}
use Rattle.tallying.specs.Tally.{tallied_reply}
use Rattle.exports.proofs.played.engine_replay.Goals as goal

pub returns-in-Ok : goal.returns-in-Ok
returns-in-Ok c =
    (tallied_reply c.replay.result, c.replay.ensures, rw c.in-Ok.is c.tallied.ensures, rw c.in-Ok.is refl)

pub returns-in-Err : goal.returns-in-Err
returns-in-Err c =
    (tallied_reply c.replay.result, c.replay.ensures, rw c.in-Err.is (rw c.number.ensures at c.answer.ensures), rw c.in-Err.is refl)
