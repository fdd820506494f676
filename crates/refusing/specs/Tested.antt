-- What is tested of a call that makes a rule before the rule is looked for.
-- Assumes nothing.
use Rattle.std.specs.Prelude.{◌≡◌, List, ◌∷◌, ◌++◌, map, ℕ}
use Rattle.rule.specs.Results.{Making, rules_among}
use Rattle.rule.specs.Refusals.{Row, refusal, flag_count, order_places, cells, records, node, argument_rows}
use Rattle.record_index.specs.Index.{Indexed}

-- the rows of lent cells, and 7 for each of some nodes
abbrev pub node_rows : ℕ → List ℕ → List ℕ → ℕ → List ℕ → List Row
node_rows n o c used ms = flag_count n ∷ order_places n o ∷ cells c ∷ records n o c used ∷ map (node used) ms

-- all rows of a call that makes a rule but the last, 10
abbrev pub tested_rows : ℕ → List ℕ → List ℕ → ℕ → Making → List Row
tested_rows n o c used x = node_rows n o c used (rules_among x) ++ argument_rows n x

-- the number of the first row that applies; where none does, the used records are entered in the index
pub record Tested (rows : List Row) (c : List ℕ) (used k : ℕ) (index : List ℕ) : Type 0 where
  pub number : k ≡ refusal rows
  pub indexed : k ≡ 0 → Indexed c used index
