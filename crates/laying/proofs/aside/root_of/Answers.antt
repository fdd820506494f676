-- `laying::aside::root_of` meets its contract: the last record, or by bit 4 an end node.
-- Assumes nothing.
use Rattle.laying.proofs.Held.{root_no}
use Rattle.laying.proofs.aside.root_of.Goals as goal

pub returns : goal.returns
returns c = root_no _ _ c.if-count-ne0.false c.bit.ensures c.if-bit-eq1.false
