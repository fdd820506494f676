-- The reduced ordered diagram of a table under an order is one, up to the sequence of its records.
-- Assumes nothing.
use mathlib.Core.Path.{sym, ◌∙◌}
use mathlib.Core.List.{List}
use Prim.Native.Nat.{ℕ, ◌<◌}
use Rattle.rule.specs.Reduced.{DrawnAs}
use Rattle.rule.specs.Demands.{Fit, Matches}
use Rattle.theory.proofs.Orders.{fit_order_is}
use Rattle.theory.proofs.Reduced.{drawn_diagram}
use Rattle.theory.proofs.Matching.{matching}

-- each record of a diagram is in every other diagram of the table under the order
pub one_diagram : (n : ℕ) (order t : List ℕ) → Fit n order t → (c d : List ℕ) (used root more top : ℕ) → DrawnAs n order t c used root
    → DrawnAs n order t d more top → (k : ℕ) → k < used → (j : ℕ) × (j < more) × Matches n c d k j
one_diagram n order t f c d used root more top x y =
    matching (drawn_diagram x) (drawn_diagram y) (fit_order_is n order f.order_fits) (x.table ∙ sym y.table)
