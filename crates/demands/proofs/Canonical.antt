-- In one store a rule has one node, and the root of a diagram is its last record.
-- Assumes nothing.
use mathlib.Core.Path.{◌≡◌, ap}
use mathlib.Core.Logic.{◌↔◌}
use mathlib.Core.Bool.{true}
use mathlib.Core.List.{List}
use Prim.Native.Nat.{ℕ, ◌+◌, ◌≤◌, ◌<◌}
use native.Mathlib.Omega.{arith}
use lib.ListN.{length}
use Rattle.rule.specs.Order.{places, fit_order}
use Rattle.rule.specs.Walk.{table_of}
use Rattle.rule.specs.Sound.{sound}
use Rattle.rule.specs.Diagram.{diagram}
use Rattle.theory.proofs.Orders.{fit_order_is}
use Rattle.theory.proofs.Sound.{sound_shape}
use Rattle.theory.proofs.Walks.{smaller}
use Rattle.theory.proofs.Reach.{all_reached_lem, diagram_view, root_last as last-record}
use Rattle.theory.proofs.Canonical.{canonical as one_node}

pub canonical : (n used k m : ℕ) (order c : List ℕ) → n ≤ 10 → length order ≡ places → fit_order n order ≡ true → sound n order c used ≡ true → k ≤ used + 1
    → m ≤ used + 1 → (table_of n c k ≡ table_of n c m) ↔ (k ≡ m)
canonical n used k m order c few l o s hk hm = (one_node (sound_shape n order c used s) (fit_order_is n order o) k m hk hm, ap (table_of n c))

pub root_last : (n used root : ℕ) (order c : List ℕ) → diagram n order c used root ≡ true → (0 < used → root ≡ used + 1) × (used ≡ 0 → root ≤ 1)
root_last n used root order c d =
    let v = diagram_view n order c used root d in (
      λ h. last-record (smaller v.cells) root v.root_is h ((all_reached_lem c used root).1 v.reached),
      λ e. omega (arith, v.root_is),
    )
