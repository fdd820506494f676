-- `runs::aligned::digits` meets its contract: the measure is the number, which has one digit more than its tenth.
-- Assumes nothing.
use Rattle.runs.proofs.aligned.+digits.Given as goal

abbrev pub decreases-digits : goal.decreases-digits
decreases-digits l = l.x
