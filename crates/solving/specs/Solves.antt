-- What is left when a set's stretch is folded, and when the set is solved.
-- Assumes nothing.
use Rattle.std.specs.Prelude.{◌≡◌, ◌≢◌, List, ℕ, ◌^◌, ◌<◌, length, set}
use Rattle.rule.specs.Bits.{bit, set_bit}
use Rattle.ways.specs.Ways.{place_of}
use Rattle.folding.specs.Fold.{Folds}
use Rattle.stretches.specs.Stretch.{stretch_of}
use Rattle.costing.specs.Choice.{Cheapest}

-- the workspace y, once w, has in the stretch of S what the one of S without v folds to, and every other stretch as it was
pub record Folded (n S v : ℕ) (w y : List ℕ) : Type 0 where
  pub lent : length y ≡ length w
  pub folds : Folds (stretch_of n w (set_bit S v 0)) (place_of S v) (stretch_of n y S)
  pub others : (T : ℕ) → T < 2 ^ n → T ≢ S → stretch_of n y T ≡ stretch_of n w T

-- what is left when S is solved: its stretch, its least cost and its first flag
pub record Solves (n S : ℕ) (w least first y least' first' : List ℕ) : Type 0 where
  pub lowest : ℕ
  pub member : bit S lowest ≡ 1
  pub folded : Folded n S lowest w y
  pub cost : ℕ
  pub flag : ℕ
  pub cheapest : Cheapest n y least S cost flag
  pub least_is : least' ≡ set least S cost
  pub first_is : first' ≡ set first S flag
