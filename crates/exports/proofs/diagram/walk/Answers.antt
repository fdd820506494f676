-- `exports::diagram::walk` meets its contract: the number is that of walk's own reply.
-- Assumes nothing.
use Rattle.rule.specs.Answers.{said_reply}
use Rattle.exports.proofs.diagram.walk.Goals as goal

pub returns-in-Ok : goal.returns-in-Ok
returns-in-Ok c =
    (said_reply c.walk.result, c.walk.ensures, rw c.in-Ok.is c.walked.ensures)

pub returns-in-Err : goal.returns-in-Err
returns-in-Err c =
    (said_reply c.walk.result, c.walk.ensures, rw c.in-Err.is (rw c.number.ensures at c.answer.ensures))
