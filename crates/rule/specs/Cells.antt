-- Records in lent cells: the one place that says how wide a record is and where its values stand (document 01, "Tables, orders, nodes" and
-- "Refused, by where it is found").
-- Assumes nothing.
use Rattle.std.specs.Prelude.{Bool, ◌&&◌, List, [], ◌∷◌, ◌++◌, map, ℕ, ◌+◌, ◌-◌, ◌*◌, ◌/◌, ◌%◌, eqb, leb, ltb, length, get_or, take, replicate}
use Rattle.rule.specs.Bits.{below}

-- "Record k, from 0, is node k+2: three 16-bit cells"
abbrev pub width : ℕ
width = 3

-- the most cells that may be lent, those of so many records: "above 3,072"
abbrev pub most_records : ℕ
most_records = 1024

abbrev pub most_cells : ℕ
most_cells = most_records * width

-- what refusal 5 tests: "length no multiple of 3, or above 3,072"
unfoldable pub fit_cells : List ℕ → Bool
fit_cells c = eqb (length c % width) 0 && leb (length c) most_cells

-- how many records the cells hold
abbrev pub room : List ℕ → ℕ
room c = length c / width

-- "the flag asked, the low node (flag is 0) and the high node (flag is 1)" of record k
unfoldable pub flag_at : List ℕ → ℕ → ℕ
flag_at c k = get_or c (k * width) 0

unfoldable pub low_at : List ℕ → ℕ → ℕ
low_at c k = get_or c (k * width + 1) 0

unfoldable pub high_at : List ℕ → ℕ → ℕ
high_at c k = get_or c (k * width + 2) 0

-- a record's cells
abbrev pub in_cells : ℕ → ℕ → ℕ → List ℕ
in_cells flag low high = flag ∷ low ∷ high ∷ []

-- a record's values, by themselves
pub record RecordValues : Type 0 where
  pub flag : ℕ
  pub low : ℕ
  pub high : ℕ

-- records in cells, one behind the other
unfoldable pub record_cells : List RecordValues → List ℕ
record_cells [] = []
record_cells (r ∷ rs) = in_cells r.flag r.low r.high ++ record_cells rs

-- records in lent cells: "Cells past an accepted result are 0"
abbrev pub laid_in : List ℕ → List RecordValues → List ℕ
laid_in c rs = take (length c) (record_cells rs ++ replicate (length c) 0)

-- record k of lent cells, and the used ones
abbrev pub record_in : List ℕ → ℕ → RecordValues
record_in c k = record { flag = flag_at c k; low = low_at c k; high = high_at c k }

abbrev pub records_in : List ℕ → ℕ → List RecordValues
records_in c used = map (λ k. record_in c k) (below used)

-- the record of a node from 2 on
abbrev pub record_of : ℕ → ℕ
record_of m = m - 2

-- an end node: 0 "no", 1 "yes"
abbrev pub is_end : ℕ → Bool
is_end m = ltb m 2
