-- What a search for a rule's node leaves, in a store of sound cells: the node, or that there is no room. The calls that draw nodes share it.
-- Assumes nothing.
use Rattle.std.specs.Prelude.{◌≡◌, ℕ, ◌+◌, ◌≤◌, ◌<◌, Option, Some, None}
use mathlib.Core.List.{List, Memᴰ}
use Rattle.rule.specs.Cells.{room}
use Rattle.rule.specs.Walk.{table_of}
use Rattle.theory.specs.Growth.{Grows}
use Rattle.theory.specs.Level.{level_of}
use Rattle.unique.specs.declared.node.Grown.{Grown}

-- node m is rule t, and asks no flag above level l
pub record Named (n : ℕ) (order : List ℕ) (l : ℕ) (t d : List ℕ) (more m : ℕ) : Type 0 where
  pub node : m ≤ more + 1
  pub table : table_of n d m ≡ t
  pub later : l ≤ level_of n order d m

-- all records are used, and one that is called for is not among them
pub record Lacks (n : ℕ) (goal : List (List ℕ)) (d : List ℕ) (more : ℕ) : Type 0 where
  pub full : more ≡ room d
  pub missing : List ℕ
  pub called : Memᴰ missing goal
  pub absent : (k : ℕ) → k < more → table_of n d (k + 2) ≡ missing → ⊥

abbrev pub FoundAs : Option ℕ → ℕ → List ℕ → List (List ℕ) → ℕ → List ℕ → List ℕ → ℕ → Type 0
FoundAs (Some m) n order goal l t d more = Named n order l t d more m
FoundAs None n order goal l t d more = Lacks n goal d more

-- the store has grown towards the goal, and rule t was found or is lacking
pub record Grew (n : ℕ) (order : List ℕ) (goal : List (List ℕ)) (l : ℕ) (t c : List ℕ) (used : ℕ) (r : Grown) (d : List ℕ) : Type 0 where
  pub grows : Grows n order goal c used d r.used
  pub is : FoundAs r.found n order goal l t d r.used
