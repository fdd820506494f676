-- `exports::diagram::engine_build` meets its contract: the number is that of build's own reply.
-- Assumes nothing.
use Rattle.rule.specs.Answers.{drawn_reply}
use Rattle.exports.proofs.diagram.engine_build.Goals as goal

pub returns-in-Ok : goal.returns-in-Ok
returns-in-Ok c =
    (drawn_reply c.build.result, c.build.ensures, rw c.in-Ok.is c.answer.ensures)

pub returns-in-Err : goal.returns-in-Err
returns-in-Err c =
    (drawn_reply c.build.result, c.build.ensures, rw c.in-Err.is (rw c.number.ensures at c.answer-in-Err.ensures))
