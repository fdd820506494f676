-- How much of an input counts.
-- Assumes nothing.
use Rattle.std.specs.Prelude.{◌≡◌, Bool, ◌||◌, List, ◌++◌, ℕ, ◌-◌, eqb, ltb, length, get_or}
use Rattle.rule.specs.Listing.{most_rows, listing}

-- these bytes are more than a table's rows, or the last of them ends the line (of no bytes there is none: a byte that is not there counts as 0)
unfoldable pub enough : List ℕ → Bool
enough input = ltb most_rows (length input) || eqb (get_or input (length input - 1) 0) 0x0A

-- whatever follows these bytes, the same is printed
abbrev pub Final : List ℕ → Type 0
Final input = (rest : List ℕ) → listing (input ++ rest) ≡ listing input
