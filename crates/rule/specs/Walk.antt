-- Walks, the flags that they ask, and the table of a node (document 01, "Tables, orders, nodes", and requests 2 and 6).
-- Assumes nothing.
use Rattle.std.specs.Prelude.{cond, true, false, List, [], ◌∷◌, map, ℕ, zero, suc, ◌^◌, eqb, length}
use Rattle.rule.specs.Bits.{bit, below, sum_over}
use Rattle.rule.specs.Tests.{keep}
use Rattle.rule.specs.Table.{tabled}
use Rattle.rule.specs.Sets.{flag_set}
use Rattle.rule.specs.Cells.{flag_at, low_at, high_at, record_of, is_end}

-- the node that a walk comes to from record k: "takes low or high by the row"
unfoldable pub step : List ℕ → ℕ → ℕ → ℕ
step c k row = cond (eqb (bit row (flag_at c k)) 0) (low_at c k) (high_at c k)

-- a walk of at most `steps` steps from node m: "takes low or high by the row until an end node"
unfoldable pub walk_in : ℕ → List ℕ → ℕ → ℕ → ℕ
walk_in zero c m row = m
walk_in (suc steps) c m row = elim (is_end m) [ true ↦ m | false ↦ walk_in steps c (step c (record_of m) row) row ]

-- "A walk starts at the root": from node m, to the answer. Children are smaller, so m steps are enough.
abbrev pub walk : List ℕ → ℕ → ℕ → ℕ
walk c m row = walk_in m c m row

-- the records that a walk of at most `steps` steps from node m passes, by their numbers k, the first one first
unfoldable pub passed_in : ℕ → List ℕ → ℕ → ℕ → List ℕ
passed_in zero c m row = []
passed_in (suc steps) c m row = elim (is_end m) [ true ↦ [] | false ↦ record_of m ∷ passed_in steps c (step c (record_of m) row) row ]

-- "the records passed" by the walk from node m
abbrev pub records_passed : List ℕ → ℕ → ℕ → List ℕ
records_passed c m row = passed_in m c m row

-- "the flags asked": those of the records passed
abbrev pub flags_asked : List ℕ → ℕ → ℕ → List ℕ
flags_asked c m row = map (flag_at c) (records_passed c m row)

-- "A walk hands back, beside its answer, a ten-bit set of the flags asked and their number"
abbrev pub walk_values : List ℕ → ℕ → ℕ → List ℕ
walk_values c m row = walk c m row ∷ flag_set (flags_asked c m row) ∷ length (flags_asked c m row) ∷ []

-- the table of a node: its walk's answer in each row
abbrev pub table_of : ℕ → List ℕ → ℕ → List ℕ
table_of n c m = tabled n (walk c m)

-- ---- the walks over all 2^n rows, from node m (request 6)

-- "The number of rows whose walk asks a flag", v
unfoldable pub walks_asking : ℕ → List ℕ → ℕ → ℕ → ℕ
walks_asking n c m v = length (keep (λ row. eqb (bit (flag_set (flags_asked c m row)) v) 1) (below (2 ^ n)))

-- how many flags they "ask .. in total": the sum of the numbers that they hand back
unfoldable pub asked_in_all : ℕ → List ℕ → ℕ → ℕ
asked_in_all n c m = sum_over (λ row. length (flags_asked c m row)) (below (2 ^ n))
