-- How many nodes a level can have (document 02, request 7).
-- Assumes nothing.
use Rattle.std.specs.Prelude.{List, ◌∷◌, ℕ, ◌≤◌, length}
use Rattle.rule.specs.Level.{level_count}

-- "A level never has more than 512 nodes.": for every table, and whatever flags stand before flag v, v and those being at most ten
abbrev pub LevelBound : Type 0
LevelBound = (v : ℕ) (before t : List ℕ) → length (v ∷ before) ≤ 10 → level_count before v t ≤ 512
