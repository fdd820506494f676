-- What the codes of a set mean: the set's flags are still to be asked, a way fixes the others, and two ways have one code exactly where their rules agree.
-- Assumes nothing.
use Rattle.std.specs.Prelude.{◌≡◌, ◌↔◌, List, [], ◌∷◌, ℕ, ◌/◌, ◌%◌, ◌≤◌, ◌<◌, length, get_or}
use Rattle.rule.specs.Table.{cofactor}
use Rattle.rule.specs.Sets.{stretch}
use Rattle.theory.specs.Sets.{having}

-- a rule with the flags of a list fixed to the bits of i, the first flag to the lowest
unfoldable pub fixed_by : List ℕ → ℕ → List ℕ → List ℕ
fixed_by [] i t = t
fixed_by (v ∷ vs) i t = fixed_by vs (i / 2) (cofactor v (i % 2) t)

-- the rule of way i of a set: the flags outside it, rising, are fixed
unfoldable pub way_rule : ℕ → List ℕ → ℕ → ℕ → List ℕ
way_rule n t set i = fixed_by (having 0 n set) i t

-- s has a code for each way of the set
pub record Codes (n : ℕ) (t : List ℕ) (set : ℕ) (s : List ℕ) : Type 0 where
  pub ways : length s ≡ stretch n set
  pub same : (i j : ℕ) → i < length s → j < length s → (get_or s i 0 ≡ get_or s j 0) ↔ (way_rule n t set i ≡ way_rule n t set j)

-- a code is the first way that has it
abbrev pub Firsts : List ℕ → Type 0
Firsts d = (i : ℕ) → i < length d → (get_or d i 0 ≤ i) × (get_or d (get_or d i 0) 0 ≡ get_or d i 0)
