-- What a page's places have room for.
-- Assumes nothing.
use Rattle.std.specs.Prelude.{List, ℕ, ◌≤◌, ◌<◌}
use Rattle.rule.specs.Cells.{most_records, room, flag_at, low_at, high_at}

-- used records that the cells hold: a flag has two digits at most, a node five
pub record Printable (c : List ℕ) (used : ℕ) : Type 0 where
  pub held : used ≤ room c
  pub few : used ≤ most_records
  pub flag : (k : ℕ) → k < used → flag_at c k < 100
  pub low : (k : ℕ) → k < used → low_at c k < 65536
  pub high : (k : ℕ) → k < used → high_at c k < 65536
