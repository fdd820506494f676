-- Rows and their bits (document 01, "Tables, orders, nodes" and "The book beside the store").
-- Assumes nothing.
use Rattle.std.specs.Prelude.{List, [], ◌∷◌, ℕ, zero, suc, ◌+◌, ◌*◌, ◌/◌, ◌%◌}

-- "In row r flag i has the value of bit i of r, flag 0 being the lowest bit."
unfoldable pub bit : ℕ → ℕ → ℕ
bit r zero = r % 2
bit r (suc i) = bit (r / 2) i

-- "the rule's row whose number is r with bit i set to the fixed value": that number
unfoldable pub set_bit : ℕ → ℕ → ℕ → ℕ
set_bit r zero b = r / 2 * 2 + b
set_bit r (suc i) b = set_bit (r / 2) i b * 2 + r % 2

-- a, a + 1, .., k numbers in all
unfoldable pub from : ℕ → ℕ → List ℕ
from a zero = []
from a (suc k) = a ∷ from (suc a) k

-- the numbers below n, rising: the flags of a rule of n flags, the rows of a table of n rows
abbrev pub below : ℕ → List ℕ
below n = from 0 n

-- the sum of what f gives for each number of a list
unfoldable pub sum_over : (ℕ → ℕ) → List ℕ → ℕ
sum_over f [] = 0
sum_over f (x ∷ xs) = f x + sum_over f xs
