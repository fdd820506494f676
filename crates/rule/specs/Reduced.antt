-- The reduced ordered diagram (document 001, section 2.1, as document 01 cites it: "neither collapsing step applies"), and to draw a table (document 01, "The book
-- beside the store").
-- Assumes nothing.
use Rattle.std.specs.Prelude.{◌≡◌, true, List, ℕ, ◌+◌, ◌≤◌, ◌<◌}
use Rattle.rule.specs.Order.{flags}
use Rattle.rule.specs.Cells.{flag_at, low_at, high_at, record_of}
use Rattle.rule.specs.Walk.{table_of}
use Rattle.rule.specs.Sound.{flags_below, children_smaller, children_later, laid}
use Rattle.rule.specs.Diagram.{all_reached}

-- "Two nodes of a decision diagram are equivalent if they are either (1) both terminals with the same value .., or (2) both internal nodes having the same
-- label and their left sons are equivalent and their right sons are equivalent."
pub data Equivalent (c : List ℕ) : ℕ → ℕ → Type 0 where
  terminals : {m p : ℕ} → m < 2 → m ≡ p → Equivalent c m p
  internal : {m p : ℕ} → 2 ≤ m → 2 ≤ p → flag_at c (record_of m) ≡ flag_at c (record_of p)
      → Equivalent c (low_at c (record_of m)) (low_at c (record_of p)) → Equivalent c (high_at c (record_of m)) (high_at c (record_of p)) → Equivalent c m p

-- Neither collapsing step applies to the used records: (i) deletes a node whose two sons are equivalent, (ii) one of two nodes that are equivalent.
pub record Reduced (c : List ℕ) (used : ℕ) : Type 0 where
  pub step_i : (k : ℕ) → k < used → Equivalent c (low_at c k) (high_at c k) → ⊥
  pub step_ii : (j k : ℕ) → j < k → k < used → Equivalent c (j + 2) (k + 2) → ⊥

-- An ordered decision diagram in cells: each path asks flags below n in the order's sequence, and every record is on a path from the root. Records stand
-- behind their children, and the cells past them are 0.
pub record Ordered (n : ℕ) (order c : List ℕ) (used root : ℕ) : Type 0 where
  pub is_laid : laid c used ≡ true
  pub below : flags_below n c used ≡ true
  pub smaller : children_smaller c used ≡ true
  pub later : children_later (flags n order) c used ≡ true
  pub root_is : root ≤ used + 1
  pub reached : all_reached c used root ≡ true

-- "To draw a table under an order is to form its reduced ordered diagram": these cells, records and root draw t
pub record DrawnAs (n : ℕ) (order t c : List ℕ) (used root : ℕ) : Type 0 where
  pub ordered : Ordered n order c used root
  pub reduced : Reduced c used
  pub table : table_of n c root ≡ t
