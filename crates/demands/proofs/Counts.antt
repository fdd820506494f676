-- How many records a table's diagrams have, how many of them ask a flag, how many rows' walks do, and how many flags all walks ask: those of one order equally
-- many. And under any two orders equally many records and walks ask a flag, where the same flags are asked before it.
-- Assumes nothing.
use mathlib.Core.Path.{◌≡◌, sym, ap, ◌∙◌}
use mathlib.Core.List.{List}
use Prim.Native.Nat.{ℕ, ◌<◌}
use Rattle.rule.specs.Bits.{below, sum_over}
use Rattle.rule.specs.Level.{level_count, size, asked_total, rows_asking}
use Rattle.rule.specs.Order.{flags, asked_before}
use Rattle.rule.specs.Walk.{walks_asking, asked_in_all}
use Rattle.rule.specs.Diagram.{asking}
use Rattle.rule.specs.Reduced.{DrawnAs}
use Rattle.rule.specs.Demands.{Fit, EquallyMany, EquallyAsked}
use Rattle.theory.proofs.Orders.{fit_order_is}
use Rattle.theory.proofs.Reduced.{drawn_diagram}
use Rattle.theory.proofs.Asked.{walks_asking_lem, asked_in_all_lem, friedman_walks}
use Rattle.theory.proofs.Asked as asked
use Rattle.theory.proofs.Counting.{asking_level, used_size, friedman_asking}

pub counts : (n : ℕ) (order t : List ℕ) → Fit n order t → (c : List ℕ) (used root : ℕ) → DrawnAs n order t c used root → used ≡ size (flags n order) t
counts n order t f c used root x =
    used_size (drawn_diagram x) (fit_order_is n order f.order_fits) ∙ ap (size (flags n order)) x.table

pub asks : (n : ℕ) (order t : List ℕ) → Fit n order t → (c : List ℕ) (used root : ℕ) → DrawnAs n order t c used root → (v : ℕ) → v < n
    → asking c used v ≡ level_count (asked_before v (flags n order)) v t
asks n order t f c used root x v h =
    asking_level (drawn_diagram x) (fit_order_is n order f.order_fits) v h ∙ ap (level_count (asked_before v (flags n order)) v) x.table

pub walks_ask : (n : ℕ) (order t : List ℕ) → Fit n order t → (c : List ℕ) (used root : ℕ) → DrawnAs n order t c used root → (v : ℕ) → v < n
    → walks_asking n c root v ≡ rows_asking (asked_before v (flags n order)) v t
walks_ask n order t f c used root x v h =
    let d = drawn_diagram x in
    walks_asking_lem d.cells (fit_order_is n order f.order_fits) root d.root_is v h ∙ ap (rows_asking (asked_before v (flags n order)) v) x.table

pub asked_total_lem : (n : ℕ) (order t : List ℕ) → Fit n order t → (c : List ℕ) (used root : ℕ) → DrawnAs n order t c used root
    → asked_in_all n c root ≡ asked_total (flags n order) t
asked_total_lem n order t f c used root x =
    let d = drawn_diagram x in
    asked_in_all_lem d.cells (fit_order_is n order f.order_fits) root d.root_is ∙ ap (asked_total (flags n order)) x.table

pub asked_by_flag : (n : ℕ) (order t : List ℕ) → Fit n order t → (c : List ℕ) (used root : ℕ) → DrawnAs n order t c used root
    → asked_in_all n c root ≡ sum_over (walks_asking n c root) (below n)
asked_by_flag n order t f c used root x =
    let d = drawn_diagram x in
    asked.asked_by_flag d.cells (fit_order_is n order f.order_fits) root d.root_is

pub equally : (n : ℕ) (t : List ℕ) → EquallyMany n t
equally n t o p f g v h w c d used top more root x y =
    friedman_asking (drawn_diagram x) (drawn_diagram y) (fit_order_is n o f.order_fits) (fit_order_is n p g.order_fits) (x.table ∙ sym y.table) v h
    (λ i. (w i).0)
    (λ i. (w i).1)

pub equally_asked : (n : ℕ) (t : List ℕ) → EquallyAsked n t
equally_asked n t o p f g v h w c d used top more root x y =
    friedman_walks (drawn_diagram x) (drawn_diagram y) (fit_order_is n o f.order_fits) (fit_order_is n p g.order_fits) (x.table ∙ sym y.table) v h
    (λ i. (w i).0)
    (λ i. (w i).1)
