-- Sound cells that keep the older nodes and hold a rule have, besides the older records, one for each node of the rule's diagram that was lacking.
-- Assumes nothing.
use mathlib.Core.Path.{◌≡◌}
use mathlib.Core.Bool.{true}
use mathlib.Core.List.{List}
use Prim.Native.Nat.{ℕ, ◌+◌, ◌≤◌}
use Rattle.rule.specs.Walk.{table_of}
use Rattle.rule.specs.Sound.{sound}
use Rattle.rule.specs.Results.{needed}
use Rattle.rule.specs.Demands.{Fit}
use Rattle.theory.proofs.Orders.{fit_order_is}
use Rattle.theory.proofs.Sound.{sound_shape}
use Rattle.theory.proofs.Needed.{needed_least}

pub needs : (n : ℕ) (order t : List ℕ) → Fit n order t → (c d : List ℕ) (used more m : ℕ) → sound n order c used ≡ true → sound n order d more ≡ true
    → used ≤ more → ((k : ℕ) → k ≤ used + 1 → table_of n d k ≡ table_of n c k) → m ≤ more + 1 → table_of n d m ≡ t
    → used + needed n order c used t ≤ more
needs n order t f c d used more m sc sd le kept h e =
    needed_least c (sound_shape n order d more sd) (fit_order_is n order f.order_fits) le kept t m h e
