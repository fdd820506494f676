-- One step down from a node.
-- Assumes nothing.
use Rattle.std.specs.Prelude.{Bool, not, cond, ◌&&◌, List, ℕ, ◌+◌, ◌≤◌, ◌<◌, eqb, leb}
use Rattle.rule.specs.Cells.{room, flag_at, record_of, is_end}
use Rattle.theory.specs.Level.{level_of}
use Rattle.levels.specs.declared.level.Levels.{Levels}

-- a node whose level can be told
pub record Stands (l : Levels) (c : List ℕ) (m : ℕ) : Type 0 where
  pub node : m ≤ room c + 1
  pub flag : 2 ≤ m → flag_at c (record_of m) < l.n

-- both are records, and ask one flag
unfoldable pub asks_same : List ℕ → ℕ → ℕ → Bool
asks_same c f g = not (is_end f) && (not (is_end g) && eqb (flag_at c (record_of f)) (flag_at c (record_of g)))

-- the one of two nodes that stands at the earlier level, the first where they stand at one
unfoldable pub earlier : ℕ → List ℕ → List ℕ → ℕ → ℕ → ℕ
earlier n order c f g = cond (leb (level_of n order c f) (level_of n order c g)) f g
