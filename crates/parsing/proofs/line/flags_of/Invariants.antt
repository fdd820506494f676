-- `parsing::line::flags_of` meets its contract: none of the powers passed is the number of rows.
-- Assumes nothing.
use Rattle.parsing.proofs.FirstLine.{Passed}
use Rattle.parsing.proofs.line.flags_of.Given as goal

abbrev pub invariant-loop-n : goal.invariant-loop-n
invariant-loop-n l = Passed l.n l.rows
