-- What the reader has aside: a file read and tested, and its records.
-- Assumes nothing.
use Rattle.std.specs.Prelude.{◌≡◌, Bool, true, List, ℕ, length, take, Result}
use Rattle.rule.specs.Cells.{most_cells, fit_cells, laid_in}
use Rattle.rule.specs.Diagram.{diagram}
use Rattle.rule.specs.Files.{reading}
use Rattle.rule.specs.declared.refusal.Refusal.{Refusal}
use Rattle.cursor.specs.declared.place.Cursor.{Cursor}
use Rattle.cursor.specs.Step.{reading_of, Comes}
use Rattle.fields.specs.Fields.{Whole}

-- the records at a cursor are laid in cells, and are a diagram there or not
pub record Tested (file : List ℕ) (x : Cursor) (root : ℕ) (c : List ℕ) (r : Bool) (d : List ℕ) : Type 0 where
  pub laid : d ≡ laid_in c (reading_of file x).records
  pub is : r ≡ diagram x.n x.order.places d x.count root

-- the cursor stands behind a fit file, whose records lie in the first of the held cells, as many as are lent
pub record Held (c file held : List ℕ) (x : Cursor) : Type 0 where
  pub whole : Whole c file x
  pub lent : fit_cells c ≡ true
  pub laid : take (length c) held ≡ laid_in c (reading_of file x).records

-- a step is the whole reading; where it is not refused, the records are held
pub record ReadAside (c file held : List ℕ) (s : Result Cursor Refusal) : Type 0 where
  pub most : length held ≡ most_cells
  pub comes : Comes file (Held c file held) (reading c file) s
