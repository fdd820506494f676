-- What a recursion over nodes is given and leaves.
-- Assumes nothing.
use Rattle.std.specs.Prelude.{◌≡◌, true, List, ℕ, ◌+◌, ◌≤◌}
use Rattle.rule.specs.Level.{nodes_of}
use Rattle.rule.specs.Order.{flags, fit_order}
use Rattle.rule.specs.Cells.{most_records, room}
use Rattle.theory.specs.Level.{level_of}
use Rattle.theory.specs.Shape.{Shaped}
use Rattle.levels.specs.declared.level.Levels.{Levels}
use Rattle.unique.specs.declared.node.Grown.{Grown}
use Rattle.record_index.specs.Index.{Indexed}
use Rattle.unique.specs.Search.{Grew}

-- a fit order turned round, and sound cells whose records are entered in the index
pub record Ready (l : Levels) (c : List ℕ) (used : ℕ) (index : List ℕ) : Type 0 where
  pub order_fits : fit_order l.n l.order.places ≡ true
  pub is_sound : Shaped l.n l.order.places c used
  pub small : room c ≤ most_records
  pub indexed : Indexed c used index

-- a node of the store that asks no flag before level `at`
pub record From (l : Levels) (c : List ℕ) (used at m : ℕ) : Type 0 where
  pub node : m ≤ used + 1
  pub later : at ≤ level_of l.n l.order.places c m

-- the store has grown by nodes of rule t's own diagram, and t's node, which asks no flag before level `at`, was found or one of them is lacking
pub record Comes (l : Levels) (t : List ℕ) (at : ℕ) (c : List ℕ) (used : ℕ) (r : Grown) (d index : List ℕ) : Type 0 where
  pub grew : Grew l.n l.order.places (nodes_of (flags l.n l.order.places) t) at t c used r d
  pub indexed : Indexed d r.used index
