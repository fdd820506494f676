-- What the unique table finds and adds.
-- Assumes nothing.
use Rattle.std.specs.Prelude.{◌≡◌, List, [], ◌∷◌, ℕ, ◌+◌, ◌<◌, Option, Some, None}
use Rattle.rule.specs.Cells.{room}
use Rattle.rule.specs.Reply.{Reply, accepted, refused}
use Rattle.cells.specs.Record.{put_record}
use Rattle.record_index.specs.Find.{Is, None as NoRecord}
use Rattle.unique.specs.declared.node.Grown.{Grown}

-- the paper's number and value for what was found: the node, or "records needed exceed those free"
abbrev pub found_reply : Option ℕ → Reply
found_reply (Some m) = accepted (m ∷ [])
found_reply None = refused 10 (0 ∷ [])

abbrev pub grown : ℕ → ℕ → Grown
grown used m = record { used = used; found = Some m }

-- the node of a flag and two children: the child where they are one; an old record that is it; a new one where there is room; or no room
pub data MakesNode (c : List ℕ) (used flag low high : ℕ) : ℕ → Reply → List ℕ → Type 0 where
  child : low ≡ high → MakesNode c used flag low high used (accepted (low ∷ [])) c
  old : (low ≡ high → ⊥) → (k : ℕ) → k < used → Is c k flag low high → MakesNode c used flag low high used (accepted ((k + 2) ∷ [])) c
  new : (low ≡ high → ⊥) → NoRecord c used flag low high → used < room c
      → MakesNode c used flag low high (used + 1) (accepted ((used + 2) ∷ [])) (put_record c used flag low high)
  full : (low ≡ high → ⊥) → NoRecord c used flag low high → used ≡ room c → MakesNode c used flag low high used (refused 10 (0 ∷ [])) c

-- the node of a flag above a low node and what was found of the high one: made where that is a node, else what was found
pub data MakesAbove (c : List ℕ) (flag low : ℕ) (second : Grown) : Grown → List ℕ → Type 0 where
  above : {high : ℕ} {r : Grown} {d : List ℕ} → second.found ≡ Some high → MakesNode c second.used flag low high r.used (found_reply r.found) d
      → MakesAbove c flag low second r d
  none : second.found ≡ None → MakesAbove c flag low second second c
