-- `history::stepping::make` meets its contract: in each arm the call is that of the arm, and the call's own contract is what is asked.
-- Assumes nothing.
use Rattle.history.proofs.stepping.make.Goals as goal

pub returns-in-Flag : goal.returns-in-Flag
returns-in-Flag c = rw c.in-Flag.is c.flag.ensures

pub returns-in-Join : goal.returns-in-Join
returns-in-Join c = rw c.in-Join.is c.join.ensures

pub returns-in-Choose : goal.returns-in-Choose
returns-in-Choose c = rw c.in-Choose.is c.choose.ensures

pub returns-in-Fix : goal.returns-in-Fix
returns-in-Fix c = rw c.in-Fix.is c.fix.ensures
