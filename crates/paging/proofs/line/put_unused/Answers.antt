-- `paging::line::put_unused` meets its contract: blanks and the line end.
-- Assumes nothing.
use native.Mathlib.Omega.{arith}
use Rattle.runs.proofs.Puts.{puts_then}
use Rattle.paging.proofs.line.put_unused.Goals as goal

pub returns : goal.returns
returns c =
    let end = c.put_byte.ensures in
    let run = c.put_blanks-end.ensures in
    (puts_then (omega (arith, c.requires, run.next_is, end.next_is)) run end, omega (arith, run.next_is, end.next_is))
