-- What pack tests before it searches: the rows of its refusal table but the last.
-- Assumes nothing.
use Rattle.std.specs.Prelude.{List, [], ◌∷◌, ℕ}
use Rattle.rule.specs.Refusals.{Row, flag_count, table_length, table_read, cells, workspace}

abbrev pub lent_rows : ℕ → List ℕ → List ℕ → List ℕ → List Row
lent_rows n t c w = flag_count n ∷ table_length n t ∷ table_read t ∷ cells c ∷ workspace n w ∷ []
