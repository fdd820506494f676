-- What the list's functions ensure: the value outright, and what callers want of it.
-- Assumes nothing.
use Rattle.std.specs.Prelude.{◌≡◌, ℕ, ◌≤◌, ◌<◌}
use Rattle.rule.specs.Sets.{set_size, sets, set_at}
use Rattle.sets.specs.Sequence.{InSequence}

-- r is set i of the list, which is in sequence: so says the test of the constant table
pub record SetAt (i r : ℕ) : Type 0 where
  pub is : r ≡ set_at i
  pub small : r < 1024
  pub sequence : InSequence sets

pub record Size (set r : ℕ) : Type 0 where
  pub is : r ≡ set_size set
  pub most : r ≤ 10
