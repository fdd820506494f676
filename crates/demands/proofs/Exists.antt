-- Every table has a diagram in every order: it has at most 1,023 nodes, and is drawn in cells with room for 1,024.
-- Assumes nothing.
use mathlib.Core.Path.{◌≡◌, refl, ap}
use mathlib.Core.List.{List, [], ◌∷◌, ◌++◌}
use Prim.Native.Nat.{ℕ, suc, ◌+◌, ◌^◌, ◌≤◌, ◌<◌}
use native.Mathlib.Omega.{arith}
use lib.ListN.{length, replicate, length-append, length-replicate}
use lib.Pow.{pow_mono}
use Rattle.rule.specs.Tests.{keep}
use Rattle.rule.specs.Table.{cofactor, depends, fixings}
use Rattle.rule.specs.Level.{distinct, level_nodes, level_count, nodes_from, size}
use Rattle.rule.specs.Order.{flags}
use Rattle.rule.specs.Cells.{most_cells}
use Rattle.rule.specs.Reduced.{DrawnAs}
use Rattle.rule.specs.Demands.{Fit}
use Rattle.theory.proofs.Tests.{length_keep}
use Rattle.theory.proofs.Perm.{once_length}
use Rattle.theory.proofs.Distinct.{distinct_in, distinct_once}
use Rattle.theory.proofs.Orders.{order_length, fit_order_is}
use Rattle.theory.proofs.Drawing.{drawing_draws}

-- ---- how many nodes there are

length-fixings : (l t : List ℕ) → length (fixings l t) ≡ 2 ^ length l
unfolding fixings
length-fixings [] t = refl
length-fixings (i ∷ l) t =
    let a = length-append (fixings l (cofactor i 0 t)) (fixings l (cofactor i 1 t)) in
    let q : length (fixings l (cofactor i 0 t) ++ fixings l (cofactor i 1 t)) ≡ 2 ^ suc (length l) =
    omega (arith, length-fixings l (cofactor i 0 t), length-fixings l (cofactor i 1 t)) in
    q

-- a level has at most as many as there are ways to fix the flags before it
level_few : (before : List ℕ) (v : ℕ) (t : List ℕ) → level_count before v t ≤ 2 ^ length before
unfolding level_nodes
level_few before v t =
    let all = keep (depends v) (fixings before t) in
    omega (arith, once_length (distinct all) all (distinct_once all) (distinct_in all), length_keep (depends v) (fixings before t), length-fixings before t)

nodes_few : (before vs t : List ℕ) → length (nodes_from before vs t) + 2 ^ length before ≤ 2 ^ (length before + length vs)
unfolding nodes_from
nodes_few before [] t = let e : 2 ^ (length before + 0) ≡ 2 ^ length before = ap (λ (x : ℕ). 2 ^ x) (omega arith) in omega arith
nodes_few before (v ∷ vs) t =
    let ih : length (nodes_from (v ∷ before) vs t) + 2 ^ suc (length before) ≤ 2 ^ (suc (length before) + length vs) = nodes_few (v ∷ before) vs t in
    let e : 2 ^ (length before + suc (length vs)) ≡ 2 ^ (suc (length before) + length vs) = ap (λ (x : ℕ). 2 ^ x) (omega arith) in
    let q : length (level_nodes before v t ++ nodes_from (v ∷ before) vs t) + 2 ^ length before ≤ 2 ^ (length before + suc (length vs)) =
    omega (arith, length-append (level_nodes before v t) (nodes_from (v ∷ before) vs t), level_few before v t) in
    q

pub size_few : (n : ℕ) (order t : List ℕ) → Fit n order t → size (flags n order) t < 1024
size_few n order t f =
    let e = order_length n (flags n order) (fit_order_is n order f.order_fits) in
    let l : 0 + length (flags n order) ≤ 10 = omega (arith, f.few) in
    let k : 2 ^ (0 + length (flags n order)) ≤ 1024 = pow_mono l in
    let q : size (flags n order) t + 1 ≤ 2 ^ (0 + length (flags n order)) = nodes_few [] (flags n order) t in
    omega arith

-- ---- a diagram

pub exists : (n : ℕ) (order t : List ℕ) → Fit n order t → (c : List ℕ) × (used : ℕ) × (root : ℕ) × DrawnAs n order t c used root
exists n order t f =
    (_, _, _, drawing_draws f (replicate most_cells 0) (omega (arith, size_few n order t f, length-replicate {A = ℕ} most_cells 0)))
