-- The levels of nodes.
-- Assumes nothing.
use Rattle.std.specs.Prelude.{cond, List, ℕ}
use Rattle.rule.specs.Order.{flags, level}
use Rattle.rule.specs.Cells.{flag_at, record_of, is_end}

-- an end node stands behind all flags, a record at the level of its flag
unfoldable pub level_of : ℕ → List ℕ → List ℕ → ℕ → ℕ
level_of n order c m = cond (is_end m) n (level (flags n order) (flag_at c (record_of m)))
