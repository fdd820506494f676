-- The children of nodes.
-- Assumes nothing.
use Rattle.std.specs.Prelude.{cond, List, ℕ, eqb}
use Rattle.rule.specs.Cells.{flag_at, low_at, high_at, record_of, is_end}

-- the child of record k where its flag is b
abbrev pub child_at : List ℕ → ℕ → ℕ → ℕ
child_at c k b = cond (eqb b 0) (low_at c k) (high_at c k)

-- the node that m comes to where flag v is b: the child of a record that asks v; another node stays
unfoldable pub child : List ℕ → ℕ → ℕ → ℕ → ℕ
child c v b m = cond (is_end m) m (cond (eqb (flag_at c (record_of m)) v) (child_at c (record_of m) b) m)
