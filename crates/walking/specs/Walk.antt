-- What a walk asks of the cells and its node.
-- Assumes nothing.
use Rattle.std.specs.Prelude.{List, ℕ, ◌+◌, ◌≤◌, ◌<◌}
use Rattle.rule.specs.Cells.{room, flag_at}
use Rattle.theory.specs.Shape.{Smaller}

-- records whose flags are below ten and whose children are smaller, and a node among them
pub record Walkable (c : List ℕ) (used m : ℕ) : Type 0 where
  pub fits : used ≤ room c
  pub flags : (k : ℕ) → k < used → flag_at c k < 10
  pub smaller : Smaller c used
  pub node : m ≤ used + 1
