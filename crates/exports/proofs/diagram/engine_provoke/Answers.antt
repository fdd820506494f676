-- `exports::diagram::engine_provoke` meets its contract: the number is that of provoke's own reply.
-- Assumes nothing.
use Rattle.rule.specs.Answers.{number_reply}
use Rattle.exports.proofs.diagram.engine_provoke.Goals as goal

pub returns-in-Ok : goal.returns-in-Ok
returns-in-Ok c =
    (number_reply c.provoke.result, c.provoke.ensures, rw c.in-Ok.is c.answer.ensures)

pub returns-in-Err : goal.returns-in-Err
returns-in-Err c =
    (number_reply c.provoke.result, c.provoke.ensures, rw c.in-Err.is (rw c.number.ensures at c.answer-in-Err.ensures))
