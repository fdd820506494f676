-- What putting and clearing records leaves in the cells.
-- Assumes nothing.
use Rattle.std.specs.Prelude.{List, ◌++◌, ℕ, ◌+◌, ◌-◌, ◌*◌, length, take, drop, replicate}
use Rattle.rule.specs.Cells.{width, in_cells}

-- the cells with a record at place k, which they have room for
unfoldable pub put_record : List ℕ → ℕ → ℕ → ℕ → ℕ → List ℕ
put_record c k flag low high = take (k * width) c ++ in_cells flag low high ++ drop ((k + 1) * width) c

-- the cells with 0 from record k on
unfoldable pub clear_from : List ℕ → ℕ → List ℕ
clear_from c k = take (k * width) c ++ replicate (length c - k * width) 0
