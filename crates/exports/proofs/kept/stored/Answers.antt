-- `exports::kept::stored` meets its contract: one number in each case of the answer.
-- Assumes nothing.
use Rattle.exports.proofs.kept.stored.Goals as goal

pub returns-in-Ok : goal.returns-in-Ok
returns-in-Ok c = rw c.in-Ok.is c.answer.ensures

pub returns-in-Err : goal.returns-in-Err
returns-in-Err c = rw c.in-Err.is (rw c.number.ensures at c.answer-in-Err.ensures)
