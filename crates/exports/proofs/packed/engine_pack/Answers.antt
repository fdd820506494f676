-- `exports::packed::engine_pack` meets its contract: the number is that of pack's own reply, and the order is written where it is accepted.
-- Assumes nothing.
use mathlib.Core.Path.{refl}
use Rattle.rule.specs.Answers.{packed_reply}
use Rattle.exports.proofs.packed.engine_pack.Goals as goal

pub returns-in-Ok : goal.returns-in-Ok
returns-in-Ok c =
    (packed_reply c.pack.result, c.pack.ensures, rw c.in-Ok.is c.answer.ensures, rw c.in-Ok.is refl)

pub returns-in-Err : goal.returns-in-Err
returns-in-Err c =
    (packed_reply c.pack.result, c.pack.ensures, rw c.in-Err.is (rw c.number.ensures at c.answer-in-Err.ensures), rw c.in-Err.is refl)
