-- `encoding::parts::put_record` meets its contract: the flag, the low node and the high node, one behind the other.
-- Assumes nothing.
use native.Mathlib.Omega.{arith}
use Rattle.runs.proofs.Puts.{puts_more}
use Rattle.encoding.proofs.parts.put_record.Goals as goal

pub returns : goal.returns
returns c =
    let pre = c.requires in
    puts_more (omega (arith, pre.2)) (puts_more (omega (arith, pre.2))
    (rw c.flag_at-flag.ensures at c.put_byte-low.ensures)
    (rw c.low_at.ensures at c.put_two-high.ensures))
    (rw c.high_at.ensures at c.put_two.ensures)
