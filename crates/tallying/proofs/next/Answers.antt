-- `tallying::next` meets its contract: each count has room for one more, and the record is that of the definition, field by field.
-- Assumes nothing.
use native.Mathlib.Omega.{arith}
use Rattle.tallying.proofs.Changed.{change_le}
use Rattle.tallying.proofs.next.Goals as goal

pub overflow_add-result-3 : goal.overflow_add-result-3
overflow_add-result-3 c = omega (arith, change_le _ _ _ c.change-change.ensures)
