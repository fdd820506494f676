-- How much of an input counts.
-- Assumes nothing.
use Rattle.std.specs.Prelude.{◌≡◌, List, ◌++◌, ℕ}
use Rattle.rule.specs.RigTally.{rig_tally}

-- whatever follows these bytes, the same is printed
abbrev pub Final : List ℕ → Type 0
Final input = (rest : List ℕ) → rig_tally (input ++ rest) ≡ rig_tally input
