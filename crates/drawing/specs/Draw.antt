-- What drawing is given and leaves.
-- Assumes nothing.
use Rattle.std.specs.Prelude.{◌≡◌, true, List, ℕ, ◌^◌, ◌≤◌, ◌<◌, length, take}
use Rattle.rule.specs.Table.{fit_rows, restrict}
use Rattle.rule.specs.Level.{nodes_of}
use Rattle.rule.specs.Order.{flags, fit_order}
use Rattle.rule.specs.Cells.{most_records, room}
use Rattle.rule.specs.Sound.{sound}
use Rattle.unique.specs.declared.node.Grown.{Grown}
use Rattle.unique.specs.Search.{Grew}

-- a fit table and order, a level, a row, and sound cells
pub record Drawing (n : ℕ) (t order : List ℕ) (at row : ℕ) (c : List ℕ) (used : ℕ) : Type 0 where
  pub few : n ≤ 10
  pub rows : length t ≡ 2 ^ n
  pub bits : fit_rows t ≡ true
  pub order_fits : fit_order n order ≡ true
  pub level : at ≤ n
  pub row_fits : row < 2 ^ n
  pub is_sound : sound n order c used ≡ true
  pub small : room c ≤ most_records

-- the node of the rule that is left where the flags before level `at` are fixed as in the row: the store has grown by nodes of that rule's own diagram, and it
-- was found, or one of them is lacking
abbrev pub Draw : ℕ → List ℕ → List ℕ → ℕ → ℕ → List ℕ → ℕ → Grown → List ℕ → Type 0
Draw n t order at row c used r d =
    Grew n order (nodes_of (flags n order) (restrict (take at (flags n order)) row t)) at (restrict (take at (flags n order)) row t) c used r d
