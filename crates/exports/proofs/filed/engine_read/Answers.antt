-- `exports::filed::engine_read` meets its contract: the number is that of read's own reply, and the order is written where it is accepted.
-- Assumes nothing.
use mathlib.Core.Path.{refl}
use Rattle.rule.specs.Answers.{loaded_reply}
use Rattle.exports.proofs.filed.engine_read.Goals as goal

pub returns-in-Ok : goal.returns-in-Ok
returns-in-Ok c =
    (loaded_reply c.read.result, c.read.ensures, rw c.in-Ok.is c.loaded.ensures, rw c.in-Ok.is refl)

pub returns-in-Err : goal.returns-in-Err
returns-in-Err c =
    (loaded_reply c.read.result, c.read.ensures, rw c.in-Err.is (rw c.number.ensures at c.answer.ensures), rw c.in-Err.is refl)
