-- `parsing::line::read_rows` meets its contract: the first rows are read.
-- Assumes nothing.
use Rattle.parsing.proofs.Characters.{Read}
use Rattle.parsing.proofs.line.read_rows.Given as goal

abbrev pub invariant-loop-i : goal.invariant-loop-i
invariant-loop-i l = Read l.line l.rows l.i
