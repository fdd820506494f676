-- Blanks, and numbers right-aligned behind them.
-- Assumes nothing.
use mathlib.Core.Path.{◌≡◌, ◌∙◌}
use mathlib.Core.List.{List}
use Prim.Native.Nat.{ℕ, ◌+◌, ◌-◌, ◌≤◌}
use native.Mathlib.Omega.{arith}
use lib.ListN.{length, replicate, length-append, length-replicate}
use Rattle.rule.specs.Text.{decimal, blank, right}
use Rattle.runs.specs.Run.{Puts}
use Rattle.runs.proofs.Puts.{puts_more}

-- a number right-aligned has just its places
pub right-length : (places x : ℕ) → length (decimal x) ≤ places → length (right places x) ≡ places
right-length places x h =
    length-append (replicate (places - length (decimal x)) blank) (decimal x)
    ∙ omega (arith, length-replicate {A = ℕ} (places - length (decimal x)) blank)

-- written: the blanks, and the digits behind them
module _ (places x : ℕ) {b d : List ℕ} {at m k : ℕ} (h : length (decimal x) ≤ places) (l : at + places ≤ length b) (f : k ≡ length (decimal x))
    (p : Puts b at (replicate (places - k) blank) m d) where
  pub right_fits : m + length (decimal x) ≤ length b
  right_fits = omega (arith, p.next_is, length-replicate {A = ℕ} (places - k) blank)

  pub puts_right : {e : List ℕ} {r : ℕ} → Puts d m (decimal x) r e → Puts b at (right places x) r e
  puts_right q = rw (← f) (puts_more (omega (arith, length-replicate {A = ℕ} (places - k) blank)) p q)
