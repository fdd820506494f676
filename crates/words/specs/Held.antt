-- A line that stands in a buffer.
-- Assumes nothing.
use Rattle.std.specs.Prelude.{List, ℕ, ◌≤◌, length}
use Rattle.words.specs.declared.lines.Line.{Line}

-- the line is a part of the bytes that are filled
abbrev pub Held : Line → List ℕ → Type 0
Held line buffer = (line.start ≤ line.end) × (line.end ≤ line.filled) × (line.filled ≤ length buffer)
