-- The pass rule that a walk may be given (document 02, request 5), and a replay (request 9), and that a provoke names (request 8): "a second node in the same
-- store"; where none is given, every row may happen.
-- Assumes nothing.
use Rattle.std.specs.Prelude.{Bool, false, List, [], ◌∷◌, ℕ, eqb, get_or}
use Rattle.std.proofs.Math.Option.{Option, none, some}
use Rattle.rule.specs.Walk.{table_of}
use Rattle.std.specs.declared.option.Option as given
use Rattle.std.specs.declared.option.Option.TheVariants.{Some, None}
use Rattle.rule.specs.declared.node.Node.{Node}

-- a pass rule by its node's number, if there is one
abbrev pub pass_of : given.Option Node → Option ℕ
pass_of None = none
pass_of (Some node) = some node.number

-- its node, for which 7 is tested
abbrev pub pass_nodes : Option ℕ → List ℕ
pass_nodes none = []
pass_nodes (some p) = p ∷ []

-- a rule, by its table, "says no" in a row: it has 0 there
abbrev pub says_no : List ℕ → ℕ → Bool
says_no t row = eqb (get_or t row 0) 0

-- "a row for which it says no can't happen" (tested behind 7 and 9, where the node and the row are there)
abbrev pub forbids : ℕ → List ℕ → Option ℕ → ℕ → Bool
forbids n c none row = false
forbids n c (some p) row = says_no (table_of n c p) row
