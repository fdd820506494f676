-- `exports::diagram::engine_check` meets its contract: the number is that of check's own reply.
-- Assumes nothing.
use Rattle.rule.specs.Answers.{number_reply}
use Rattle.exports.proofs.diagram.engine_check.Goals as goal

pub returns-in-Ok : goal.returns-in-Ok
returns-in-Ok c =
    (number_reply c.check.result, c.check.ensures, rw c.in-Ok.is c.answer.ensures)

pub returns-in-Err : goal.returns-in-Err
returns-in-Err c =
    (number_reply c.check.result, c.check.ensures, rw c.in-Err.is (rw c.number.ensures at c.answer-in-Err.ensures))
