-- What the test of lent cells' length gives.
-- Assumes nothing.
use mathlib.Core.Path.{◌≡◌}
use mathlib.Core.Bool.{true}
use mathlib.Core.List.{List}
use Prim.Native.Nat.{ℕ, ◌%◌, ◌≤◌}
use borrow.Author.Tests.{leb-true}
use lib.Dec.{eqb, leb}
use lib.ListN.{length}
use Rattle.rule.specs.Cells.{width, most_cells, fit_cells}
use Rattle.theory.proofs.Tests.{and_split}

pub fit_length_lem : (c : List ℕ) → fit_cells c ≡ true → length c ≤ most_cells
unfolding fit_cells
fit_length_lem c e = leb-true (length c) most_cells (and_split (eqb (length c % width) 0) (leb (length c) most_cells) e).1
