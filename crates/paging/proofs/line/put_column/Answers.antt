-- `paging::line::put_column` meets its contract: the blank, and the number behind it.
-- Assumes nothing.
use native.Mathlib.Omega.{arith}
use Rattle.runs.proofs.Puts.{puts_then}
use Rattle.paging.proofs.line.put_column.Goals as goal

pub returns : goal.returns
returns c = (
  puts_then (omega (arith, c.requires.1, c.put_byte-next.ensures.next_is, c.put_right.ensures.1)) c.put_byte-next.ensures c.put_right.ensures.0,
  omega (arith, c.put_byte-next.ensures.next_is, c.put_right.ensures.1),
)
