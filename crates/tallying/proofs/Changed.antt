-- Whether a snapshot's answer is a change.
-- Assumes nothing.
use mathlib.Core.Path.{◌≡◌}
use mathlib.Core.Bool.{Bool, true, false, cond}
use Prim.Native.Nat.{ℕ, ◌≤◌}
use native.Mathlib.Omega.{arith}
use lib.Dec.{eqb}
use Rattle.tallying.specs.Tally.{changed}

cond_le : (t : Bool) (a b n : ℕ) → a ≤ n → b ≤ n → cond t a b ≤ n
cond_le true a b n h g = h
cond_le false a b n h g = g

changed_le : (played last answer : ℕ) → changed played last answer ≤ 1
unfolding changed
changed_le played last answer = cond_le (eqb played 0) _ _ 1 (omega arith) (cond_le (eqb answer last) _ _ 1 (omega arith) (omega arith))

pub change_le : (played last answer : ℕ) {change : ℕ} → change ≡ changed played last answer → change ≤ 1
change_le played last answer e = omega (arith, e, changed_le played last answer)
