-- A run of bytes written at a place.
-- Assumes nothing.
use Rattle.std.specs.Prelude.{◌≡◌, List, ◌++◌, ℕ, ◌+◌, length, take, drop}

-- the bytes with a run at a place, which they have room for
unfoldable pub over : List ℕ → ℕ → List ℕ → List ℕ
over bytes at run = take at bytes ++ run ++ drop (at + length run) bytes

-- the run is written, and the next place handed back
pub record Puts (bytes : List ℕ) (at : ℕ) (run : List ℕ) (next : ℕ) (after : List ℕ) : Type 0 where
  pub next_is : next ≡ at + length run
  pub after_is : after ≡ over bytes at run
