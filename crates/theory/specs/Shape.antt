-- The shape of cells as facts about each record: what the test `shaped` of crate rule tells (proofs/Shape.antt).
-- Assumes nothing.
use Rattle.std.specs.Prelude.{◌≡◌, List, ℕ, ◌+◌, ◌*◌, ◌≤◌, ◌<◌, get_or}
use Rattle.rule.specs.Order.{flags, level}
use Rattle.rule.specs.Cells.{width, room, flag_at, low_at, high_at, record_of}

pub record Shaped (n : ℕ) (order c : List ℕ) (used : ℕ) : Type 0 where
  pub fits : used ≤ room c
  pub flag : (k : ℕ) → k < used → flag_at c k < n
  pub differ : (k : ℕ) → k < used → low_at c k ≡ high_at c k → ⊥
  pub low_smaller : (k : ℕ) → k < used → low_at c k < k + 2
  pub high_smaller : (k : ℕ) → k < used → high_at c k < k + 2
  pub low_later : (k : ℕ) → k < used → 2 ≤ low_at c k → level (flags n order) (flag_at c k) < level (flags n order) (flag_at c (record_of (low_at c k)))
  pub high_later : (k : ℕ) → k < used → 2 ≤ high_at c k → level (flags n order) (flag_at c k) < level (flags n order) (flag_at c (record_of (high_at c k)))
  pub once : (j k : ℕ) → j < used → k < used → flag_at c j ≡ flag_at c k → low_at c j ≡ low_at c k → high_at c j ≡ high_at c k → j ≡ k
  pub clear : (i : ℕ) → used * width ≤ i → get_or c i 0 ≡ 0

-- of these, all that a walk needs to end: the children of the used records are smaller than their own nodes
pub record Smaller (c : List ℕ) (used : ℕ) : Type 0 where
  pub low : (k : ℕ) → k < used → low_at c k < k + 2
  pub high : (k : ℕ) → k < used → high_at c k < k + 2
