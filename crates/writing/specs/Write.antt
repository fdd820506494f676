-- What the writer computes of a file before it writes it.
-- Assumes nothing.
use Rattle.std.specs.Prelude.{List, [], ◌∷◌, ℕ, ◌+◌, ◌*◌, ◌≤◌, ◌<◌, ltb, length}
use Rattle.rule.specs.Cells.{room, flag_at}
use Rattle.rule.specs.Refusals.{Row}
use Rattle.rule.specs.Files.{longest_label, count_size, record_size, bit_if, long_label, label_bytes, file_of}

-- the file's length
abbrev pub size_of : ℕ → ℕ → ℕ → ℕ
size_of n size used = 2 + n + bit_if size (size + 1) + bit_if used (used * record_size + count_size)

-- the rows that only the writer tests, of a file of this length
abbrev pub own_rows : ℕ → List ℕ → List ℕ → List Row
own_rows size l bytes = long_label (length l) ∷ label_bytes l ∷ (ltb (length bytes) size, 10) ∷ []

-- none of the writer's rows applies: what its stores need
pub record Writable (n : ℕ) (o c : List ℕ) (used root : ℕ) (l bytes : List ℕ) : Type 0 where
  pub few : n ≤ 10
  pub held : used ≤ room c
  pub flags : (k : ℕ) → k < used → flag_at c k < 256
  pub short : length l ≤ longest_label
  pub fits : length (file_of n o c used root l) ≤ length bytes
