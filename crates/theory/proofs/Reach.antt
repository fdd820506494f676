-- Which nodes can be reached from a node, and diagrams by their parts.
-- Assumes nothing.
use mathlib.Core.Path.{◌≡◌, refl, sym, ap, ap₂, ◌∙◌, subst}
use mathlib.Core.Logic.{◌⊎◌, inl, inr, ◌↔◌, ◌≢◌}
use mathlib.Core.Bool.{Bool, true, false, ◌||◌, or-false, or-true}
use mathlib.Core.List.{List}
use Prim.Native.Nat.{ℕ, zero, suc, ◌+◌, ◌-◌, ◌≤◌, ◌<◌}
use native.Mathlib.Nat.{le_refl}
use native.Mathlib.Decide.{ℕ_discrete}
use native.Mathlib.Omega.{arith}
use borrow.Author.Tests.{lt-ltb, le-ltb, leb-true, le-leb, eqb-true, eq-eqb, ne_eqb}
use lib.Dec.{eqb, leb}
use lib.Pow.{pow_pos}
use Rattle.rule.specs.Cells.{low_at, high_at, record_of}
use Rattle.rule.specs.Walk.{table_of}
use Rattle.rule.specs.Sound.{sound}
use Rattle.rule.specs.Diagram.{reach_in, reach, all_reached, diagram}
use Rattle.rule.specs.Results.{root_by}
use Rattle.theory.proofs.Tests.{and_split, and_join, each_below, below_each}
use Rattle.theory.specs.Shape.{Shaped, Smaller}
use Rattle.theory.proofs.Sound.{sound_shape, shape_sound}
use Rattle.theory.specs.Child.{child_at}
use Rattle.theory.proofs.Walks.{node, smaller, nodes, child_is, walk_end, table_row}

-- ---- reach, node by node

module _ (c : List ℕ) (m : ℕ) where
  reach_stop : (a top : ℕ) → top < 2 → reach_in a c top m ≡ eqb top m
  unfolding reach_in
  reach_stop zero top h = refl
  reach_stop (suc a) top h =
      ap (λ (b : Bool). eqb top m || elim b [ true ↦ false | false ↦ reach_in a c (low_at c (record_of top)) m || reach_in a c (high_at c (record_of top)) m ])
      (lt-ltb top 2 h)
      ∙ or-false (eqb top m)

  reach_step : (a k : ℕ) → reach_in (suc a) c (k + 2) m ≡ (eqb (k + 2) m || (reach_in a c (low_at c k) m || reach_in a c (high_at c k) m))
  unfolding reach_in
  reach_step a k =
      let e : k + 2 - 2 ≡ k = omega arith in
      ap (λ (b : Bool). eqb (k + 2) m || elim b [ true ↦ false | false ↦ reach_in a c (low_at c (record_of (k + 2))) m || reach_in a c (high_at c (record_of (k + 2))) m ])
      (le-ltb (k + 2) 2 (omega arith))
      ∙ ap (λ (x : ℕ). eqb (k + 2) m || (reach_in a c (low_at c x) m || reach_in a c (high_at c x) m)) e

module _ {c : List ℕ} {used : ℕ} (s : Smaller c used) (m : ℕ) where
  -- more steps than the node's number change nothing
  reach_enough : (a b top : ℕ) → top ≤ a → top ≤ b → top ≤ used + 1 → reach_in a c top m ≡ reach_in b c top m
  reach_enough zero b top p q h = reach_stop c m 0 top (omega arith) ∙ sym (reach_stop c m b top (omega arith))
  reach_enough (suc a) zero top p q h = reach_stop c m (suc a) top (omega arith) ∙ sym (reach_stop c m 0 top (omega arith))
  reach_enough (suc a) (suc b) top p q h =
      elim (node top) [
        | inl l ↦ reach_stop c m (suc a) top l ∙ sym (reach_stop c m (suc b) top l)
        | inr (k, e) ↦
            let u : k < used = omega arith in
            let x = s.low k u in
            let y = s.high k u in
            subst (λ (x : ℕ). reach_in (suc a) c x m ≡ reach_in (suc b) c x m) (sym e)
            (reach_step c m a k
            ∙ rw (reach_enough a b (low_at c k) (omega arith) (omega arith) (omega arith), reach_enough a b (high_at c k) (omega arith) (omega arith) (omega arith))
            (sym (reach_step c m b k)))
      ]

  reach_children : (k : ℕ) → k < used → reach c (k + 2) m ≡ (eqb (k + 2) m || (reach c (low_at c k) m || reach c (high_at c k) m))
  reach_children k h =
      let x = s.low k h in
      let y = s.high k h in
      let e : k + 2 ≡ suc (k + 1) = omega arith in
      ap (λ (a : ℕ). reach_in a c (k + 2) m) e
      ∙ reach_step c m (k + 1) k
      ∙ ap₂ (λ (a b : Bool). eqb (k + 2) m || (a || b))
      (reach_enough (k + 1) (low_at c k) (low_at c k) (omega arith) (le_refl _) (omega arith))
      (reach_enough (k + 1) (high_at c k) (high_at c k) (omega arith) (le_refl _) (omega arith))

-- from an end node only itself is reached
pub reach_end : (c : List ℕ) (top m : ℕ) → top < 2 → reach c top m ≡ true → top ≡ m
reach_end c top m h e = eqb-true top m (sym (reach_stop c m top top h) ∙ e)

-- a node is reached from itself
pub reach_self : (c : List ℕ) (m : ℕ) → reach c m m ≡ true
unfolding reach_in
reach_self c m = go m m
  where
    go : (a m : ℕ) → reach_in a c m m ≡ true
    go zero m = eq-eqb m m refl
    go (suc a) m = rw (eq-eqb m m refl)

or_cases : (a b : Bool) → (a || b) ≡ true → (a ≡ true) ⊎ (b ≡ true)
or_cases true b e = inl refl
or_cases false b e = inr e

module _ {c : List ℕ} {used : ℕ} (s : Smaller c used) where
  -- from a record itself is reached, and what its low or its high reaches
  pub reach_split : (k m : ℕ) → k < used → reach c (k + 2) m ≡ true
      → (k + 2 ≡ m) ⊎ ((reach c (low_at c k) m ≡ true) ⊎ (reach c (high_at c k) m ≡ true))
  reach_split k m h e =
      elim (or_cases (eqb (k + 2) m) _ (sym (reach_children s m k h) ∙ e)) [
        | inl q ↦ inl (eqb-true (k + 2) m q)
        | inr q ↦ inr (or_cases (reach c (low_at c k) m) _ q)
      ]

  pub reach_from : (k b m : ℕ) → k < used → reach c (child_at c k b) m ≡ true → reach c (k + 2) m ≡ true
  reach_from k b m h =
      child_is c k b (λ (x : ℕ). reach c x m ≡ true → reach c (k + 2) m ≡ true)
      (λ e. reach_children s m k h ∙ rw e (or-true (eqb (k + 2) m)))
      (λ e. reach_children s m k h ∙ rw e (ap (λ (b : Bool). eqb (k + 2) m || b) (or-true (reach c (low_at c k) m)) ∙ or-true (eqb (k + 2) m)))

  -- what holds of m, and of a record if it holds of a child from which m is reached, holds of each node from which m is reached
  pub reach_cases : (m : ℕ) (P : ℕ → Type 0) → P m → ((k b : ℕ) → k < used → reach c (child_at c k b) m ≡ true → P (child_at c k b) → P (k + 2))
      → (top : ℕ) → top ≤ used + 1 → reach c top m ≡ true → P top
  reach_cases m P x f =
      nodes s (λ (top : ℕ). reach c top m ≡ true → P top)
      (λ top l e. subst P (sym (reach_end c top m l e)) x)
      (λ k h p q e.
      elim (reach_split k m h e) [
        | inl y ↦ subst P (sym y) x
        | inr y ↦ elim y [ inl z ↦ f k 0 h z (p z) | inr z ↦ f k 1 h z (q z) ]
      ])

  pub reach_trans : (top m p : ℕ) → top ≤ used + 1 → reach c top m ≡ true → reach c m p ≡ true → reach c top p ≡ true
  reach_trans top m p h e q =
      reach_cases m (λ (x : ℕ). reach c x p ≡ true) q (λ k b l r i. reach_from k b p l i) top h e

  -- with a record its children are reached
  pub reach_down : (top k b : ℕ) → top ≤ used + 1 → k < used → reach c top (k + 2) ≡ true → reach c top (child_at c k b) ≡ true
  reach_down top k b h l e = reach_trans top (k + 2) (child_at c k b) h e (reach_from k b (child_at c k b) l (reach_self c (child_at c k b)))

  -- what is reached is no larger
  pub reach_le : (top m : ℕ) → top ≤ used + 1 → reach c top m ≡ true → m ≤ top
  reach_le top m h e =
      reach_cases m (λ (x : ℕ). m ≤ x) (le_refl m)
      (λ k b l r i. omega (arith, child_is c k b (λ (x : ℕ). x < k + 2) (s.low k l) (s.high k l))) top h e

  -- what is reached from another node is a child of a record that is reached
  pub reach_parent : (top m : ℕ) → top ≤ used + 1 → reach c top m ≡ true → top ≢ m
      → (j : ℕ) × (j < used) × (reach c top (j + 2) ≡ true) × ((low_at c j ≡ m) ⊎ (high_at c j ≡ m))
  reach_parent top m h e =
      reach_cases m
      (λ (x : ℕ). x ≢ m → (j : ℕ) × (j < used) × (reach c x (j + 2) ≡ true) × ((low_at c j ≡ m) ⊎ (high_at c j ≡ m)))
      (λ d. absurd (d refl))
      (λ k b l r i d.
      elim (ℕ_discrete (child_at c k b) m) [
        | yes q ↦ (k, l, reach_self c (k + 2), child_is c k b (λ (x : ℕ). x ≡ m → (low_at c k ≡ m) ⊎ (high_at c k ≡ m)) inl inr q)
        | no q ↦ let (j, hj, rj, p) = i q in (j, hj, reach_from k b (j + 2) l rj, p)
      ]) top h e

-- ---- every record is reached

pub all_reached_lem : (c : List ℕ) (used root : ℕ) → (all_reached c used root ≡ true) ↔ ((k : ℕ) → k < used → reach c root (k + 2) ≡ true)
unfolding all_reached
all_reached_lem c used root = (each_below (λ k. reach c root (k + 2)) used, below_each (λ k. reach c root (k + 2)) used)

-- record k is the child of a later used record
abbrev pub Parent : List ℕ → ℕ → ℕ → Type 0
Parent c used k = (j : ℕ) × (k < j) × (j < used) × ((low_at c j ≡ k + 2) ⊎ (high_at c j ≡ k + 2))

module _ {c : List ℕ} {used : ℕ} (s : Smaller c used) (root : ℕ) where
  -- the root is the last record
  pub root_last : root ≤ used + 1 → 0 < used → all_reached c used root ≡ true → root ≡ used + 1
  root_last h u a =
      let e : used - 1 + 2 ≡ used + 1 = omega arith in
      omega (arith, reach_le s root (used - 1 + 2) h ((all_reached_lem c used root).0 a (used - 1) (omega arith)))

  -- and each other record has a parent
  pub reached_parents : root ≤ used + 1 → all_reached c used root ≡ true → (k : ℕ) → k + 1 < used → Parent c used k
  reached_parents h a k l =
      let r = root_last h (omega arith) a in
      let (j, hj, rj, p) = reach_parent s root (k + 2) h ((all_reached_lem c used root).0 a k (omega arith)) (λ e. omega arith) in
      (j, elim p [ inl e ↦ omega (arith, s.low j hj) | inr e ↦ omega (arith, s.high j hj) ], hj, p)

  -- which is enough
  pub reached_by_parents : root ≡ used + 1 → ((k : ℕ) → k + 1 < used → Parent c used k) → all_reached c used root ≡ true
  reached_by_parents e f = (all_reached_lem c used root).1 (λ k h. go used k (omega arith) h)
    where
      go : (b k : ℕ) → used ≤ k + b → k < used → reach c root (k + 2) ≡ true
      go zero k l h = absurd (omega arith)
      go (suc b) k l h =
          elim (ℕ_discrete (k + 1) used) [
            | yes q ↦ let z : root ≡ k + 2 = omega arith in rw z (reach_self c (k + 2))
            | no q ↦
                let (j, x, y, p) = f k (omega arith) in
                let r = go b j (omega arith) y in
                elim p [
                  | inl z ↦ subst (λ (m : ℕ). reach c root m ≡ true) z (reach_down s root j 0 (omega arith) y r)
                  | inr z ↦ subst (λ (m : ℕ). reach c root m ≡ true) z (reach_down s root j 1 (omega arith) y r)
                ]
          ]

-- ---- diagrams

-- cells of the shape in which every record is reached
pub record Diagram (n : ℕ) (order c : List ℕ) (used root : ℕ) : Type 0 where
  pub cells : Shaped n order c used
  pub root_is : root ≤ used + 1
  pub reached : (k : ℕ) → k < used → reach c root (k + 2) ≡ true

module _ (n : ℕ) (order c : List ℕ) (used root : ℕ) where
  -- what the test says, and what it takes
  pub diagram_view : diagram n order c used root ≡ true → Diagram n order c used root
  unfolding diagram
  diagram_view e =
      let (a, e₁) = and_split (sound n order c used) _ e in
      let (b, r) = and_split (leb root (used + 1)) _ e₁ in
      record { cells = sound_shape n order c used a; root_is = leb-true root (used + 1) b; reached = (all_reached_lem c used root).0 r }

  pub view_diagram : Diagram n order c used root → diagram n order c used root ≡ true
  unfolding diagram
  view_diagram d =
      and_join (shape_sound n order c used d.cells) (and_join (le-leb root (used + 1) d.root_is) ((all_reached_lem c used root).1 d.reached))

-- its root is its last record, or the end node of its table
pub root_by_lem : {n used root : ℕ} {order d : List ℕ} → Diagram n order d used root → root ≡ root_by used (table_of n d root)
root_by_lem {n} {used} {root} {d} x = go used refl
  where
    go : (k : ℕ) → used ≡ k → root ≡ root_by k (table_of n d root)
    go zero e =
        let m : root < 2 = omega (arith, x.root_is) in
        sym (walk_end d root 0 m) ∙ sym (table_row n d root 0 (pow_pos n))
    go (suc k) e =
        root_last (smaller x.cells) root x.root_is (omega arith) ((all_reached_lem d used root).1 x.reached) ∙ ap (λ (x : ℕ). x + 1) e
        ∙ sym (rw (ne_eqb (suc k) 0 (omega arith)))
