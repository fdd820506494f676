-- What filling lent cells with a diagram is given and leaves.
-- Assumes nothing.
use Rattle.std.specs.Prelude.{◌≡◌, true, List, ℕ, ◌^◌, ◌≤◌, ◌<◌, length, Option, Some, None}
use Rattle.rule.specs.Table.{fit_rows}
use Rattle.rule.specs.Level.{size}
use Rattle.rule.specs.Order.{flags, fit_order}
use Rattle.rule.specs.Cells.{most_cells, room}
use Rattle.rule.specs.Results.{root_by}
use Rattle.rule.specs.Sequence.{drawing}
use Rattle.unique.specs.declared.node.Grown.{Grown}

-- a table, an order and cells that passed the tests of build
pub record Fits (n : ℕ) (t order c : List ℕ) : Type 0 where
  pub few : n ≤ 10
  pub rows : length t ≡ 2 ^ n
  pub bits : fit_rows t ≡ true
  pub order_fits : fit_order n order ≡ true
  pub lent : length c ≤ most_cells

-- the diagram stands in the cells, with its own node count and root
pub record Filled (n : ℕ) (t order c : List ℕ) (used root : ℕ) (d : List ℕ) : Type 0 where
  pub count : used ≡ size (flags n order) t
  pub root_is : root ≡ root_by (size (flags n order) t) t
  pub fits : size (flags n order) t ≤ room c
  pub drawn : d ≡ drawing n order t c

-- there is no room for it, and the cells are as they were
pub record Unfilled (n : ℕ) (t order c d : List ℕ) : Type 0 where
  pub exceeds : room c < size (flags n order) t
  pub kept : d ≡ c

abbrev pub FillsBy : Option ℕ → ℕ → List ℕ → List ℕ → List ℕ → ℕ → List ℕ → Type 0
FillsBy (Some root) n t order c used d = Filled n t order c used root d
FillsBy None n t order c used d = Unfilled n t order c d

abbrev pub Fills : ℕ → List ℕ → List ℕ → List ℕ → Grown → List ℕ → Type 0
Fills n t order c r d = FillsBy r.found n t order c r.used d
