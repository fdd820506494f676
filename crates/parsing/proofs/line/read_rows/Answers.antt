-- `parsing::line::read_rows` meets its contract: the first rows are read.
-- Assumes nothing.
use native.Mathlib.Omega.{arith}
use Rattle.parsing.proofs.Characters.{digit_at, read_all}
use Rattle.parsing.proofs.line.read_rows.Goals as goal

pub overflow_sub-rows : goal.overflow_sub-rows
overflow_sub-rows c = digit_at c.args.line.now c.loop-i.i c.requires.0 (omega arith)

pub returns : goal.returns
returns c = read_all c.args.line.now c.loop-i.rows c.loop-i.i (omega arith) (omega arith) c.loop-i.invariant
