-- A set that is to be solved.
-- Assumes nothing.
use Rattle.std.specs.Prelude.{◌≡◌, ◌≢◌, List, ℕ, ◌^◌, ◌≤◌, ◌<◌, length}
use Rattle.rule.specs.Bits.{bit}
use Rattle.stretches.specs.Stretch.{Starts}

-- a set of flags below n that is not empty, and a workspace that has all stretches
pub record Ready (n S : ℕ) (starts w : List ℕ) : Type 0 where
  pub started : Starts n starts
  pub below : S < 2 ^ n
  pub some : S ≢ 0
  pub lent : 3 ^ n ≤ length w

-- the smallest flag of a set
pub record Lowest (S v : ℕ) : Type 0 where
  pub member : bit S v ≡ 1
  pub first : (u : ℕ) → u < v → bit S u ≢ 1
