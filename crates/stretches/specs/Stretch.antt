-- The stretches of the workspace: where they stand.
-- Assumes nothing.
use Rattle.std.specs.Prelude.{◌≡◌, List, ℕ, ◌+◌, ◌^◌, ◌≤◌, ◌<◌, get_or, take, drop}
use Rattle.rule.specs.Sets.{stretch, stretch_at}

-- the cells of a set's stretch
unfoldable pub stretch_of : ℕ → List ℕ → ℕ → List ℕ
stretch_of n w S = take (stretch n S) (drop (stretch_at n S) w)

-- `starts` has where each set's stretch starts
pub record Starts (n : ℕ) (starts : List ℕ) : Type 0 where
  pub few : n ≤ 10
  pub is : (S : ℕ) → S < 2 ^ n → get_or starts S 0 ≡ stretch_at n S

-- the part from `start` to before `end` is the stretch of S
pub record PartOf (n S start end : ℕ) : Type 0 where
  pub start_is : start ≡ stretch_at n S
  pub end_is : end ≡ stretch_at n S + stretch n S
  pub fits : end ≤ 3 ^ n
