-- `exports::diagram::engine_tabulate` meets its contract: the number is that of tabulate's own reply.
-- Assumes nothing.
use Rattle.rule.specs.Answers.{done_reply}
use Rattle.exports.proofs.diagram.engine_tabulate.Goals as goal

pub returns-in-Ok : goal.returns-in-Ok
returns-in-Ok c =
    (done_reply c.tabulate.result, c.tabulate.ensures, rw c.in-Ok.is c.answer.ensures)

pub returns-in-Err : goal.returns-in-Err
returns-in-Err c =
    (done_reply c.tabulate.result, c.tabulate.ensures, rw c.in-Err.is (rw c.number.ensures at c.answer-in-Err.ensures))
