-- Sets of flags as numbers: the flags of a set and those that it lacks, and orders that ask a picked flag at each step.
-- Assumes nothing.
use Rattle.std.specs.Prelude.{◌≡◌, ◌≢◌, List, [], ◌∷◌, ℕ, eqb}
use Rattle.rule.specs.Bits.{bit, set_bit, below}
use Rattle.rule.specs.Tests.{keep}

-- the flags below n whose bit in S is b, rising
unfoldable pub having : ℕ → ℕ → ℕ → List ℕ
having b n S = keep (λ (v : ℕ). eqb (bit S v) b) (below n)

-- o asks each flag of S once, at each step the picked one
abbrev pub Follows : (ℕ → ℕ) → ℕ → List ℕ → Type 0
Follows pick S [] = S ≡ 0
Follows pick S (v ∷ o) = (S ≢ 0) × (v ≡ pick S) × Follows pick (set_bit S v 0) o
