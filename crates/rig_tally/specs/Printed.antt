-- How much is printed.
-- Assumes nothing.
use Rattle.std.specs.Prelude.{ℕ}

-- the bytes of a tally of ten flags, where each of its 13 numbers has five digits and a line end; a refusal has fewer
abbrev pub most_printed : ℕ
most_printed = 78
