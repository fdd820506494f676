-- The nodes of a rule's reduced ordered diagram, level by level (document 01, "Packing": "Nodes asking flag v number the distinct rules that depend on v
-- and arise by fixing the flags before v in all ways"), and the flags that its walks ask (request 6). A node is named by its own rule's table.
-- Assumes nothing.
use Rattle.std.specs.Prelude.{not, List, [], ◌∷◌, ◌++◌, ℕ, length}
use Rattle.rule.specs.Bits.{bit, below, sum_over}
use Rattle.rule.specs.Tests.{add_if, keep, among}
use Rattle.rule.specs.Table.{cofactor, depends, fixings, restrict}

-- the distinct tables of a list: each is kept where it stands last
unfoldable pub distinct : List (List ℕ) → List (List ℕ)
distinct [] = []
distinct (t ∷ ts) = add_if (not (among t ts)) t (distinct ts)

-- the nodes asking flag v, where `before` are the flags before v
unfoldable pub level_nodes : List ℕ → ℕ → List ℕ → List (List ℕ)
level_nodes before v t = distinct (keep (depends v) (fixings before t))

-- their number
abbrev pub level_count : List ℕ → ℕ → List ℕ → ℕ
level_count before v t = length (level_nodes before v t)

-- the nodes asking the flags of `order`, where `before` are asked before those
unfoldable pub nodes_from : List ℕ → List ℕ → List ℕ → List (List ℕ)
nodes_from before [] t = []
nodes_from before (v ∷ order) t = level_nodes before v t ++ nodes_from (v ∷ before) order t

-- all nodes of the rule's diagram under an order, and their number
abbrev pub nodes_of : List ℕ → List ℕ → List (List ℕ)
nodes_of order t = nodes_from [] order t

abbrev pub size : List ℕ → List ℕ → ℕ
size order t = length (nodes_of order t)

-- ---- the flags that walks ask (request 6)

-- the flags of `order` that the rule's walk for a row asks, in their sequence: each that the rule depends on once the flags before it are fixed as in the row
unfoldable pub asked_by : List ℕ → List ℕ → ℕ → List ℕ
asked_by [] t row = []
asked_by (v ∷ order) t row = add_if (depends v t) v (asked_by order (cofactor v (bit row v) t) row)

-- how many flags "walks over all 2^n rows ask .. in total", under an order
unfoldable pub asked_total : List ℕ → List ℕ → ℕ
asked_total order t = sum_over (λ row. length (asked_by order t row)) (below (length t))

-- "The number of rows whose walk asks a flag", v, where `before` are the flags before v
unfoldable pub rows_asking : List ℕ → ℕ → List ℕ → ℕ
rows_asking before v t = length (keep (λ row. depends v (restrict before row t)) (below (length t)))
