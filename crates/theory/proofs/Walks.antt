-- Walks over records whose children are smaller, and the tables of nodes.
-- Assumes nothing.
use mathlib.Core.Path.{◌≡◌, refl, sym, ap, ◌∙◌, subst}
use mathlib.Core.Logic.{◌⊎◌, inl, inr}
use mathlib.Core.Bool.{Bool, true, false, cond}
use mathlib.Core.List.Memᴰ.{of_map}
use mathlib.Core.List.{List}
use Prim.Native.Nat.{ℕ, zero, suc, ◌+◌, ◌-◌, ◌*◌, ◌^◌, ◌≤◌, ◌<◌}
use native.Mathlib.Nat.{le_refl}
use native.Mathlib.Omega.{arith}
use native.Mathlib.Decide.{dec_lt}
use borrow.Author.Tests.{lt-ltb, le-ltb}
use lib.Dec.{eqb}
use lib.ListN.{length, get_or, length-map}
use lib.Seq.{ext_get_or}
use Rattle.rule.specs.Bits.{bit, below}
use Rattle.rule.specs.Table.{tabled, fit_rows}
use Rattle.rule.specs.Cells.{width, flag_at, low_at, high_at, record_of}
use Rattle.rule.specs.Walk.{step, walk_in, walk, table_of}
use Rattle.theory.proofs.Bits.{length_from, map_below}
use Rattle.theory.proofs.Tests.{in_each_lem}
use Rattle.theory.specs.Child.{child_at}
use Rattle.theory.specs.Shape.{Shaped, Smaller}

-- ---- nodes

-- a node is an end node or a record
pub node : (m : ℕ) → (m < 2) ⊎ ((k : ℕ) × (m ≡ k + 2))
node m = elim (dec_lt m 2) [ yes h ↦ inl h | no d ↦ inr (m - 2, omega arith) ]

pub smaller : {n used : ℕ} {order c : List ℕ} → Shaped n order c used → Smaller c used
smaller s = record { low = s.low_smaller; high = s.high_smaller }

module _ {c : List ℕ} {used : ℕ} (s : Smaller c used) where
  -- what holds of the end nodes, and of a record if it holds of its children, holds of each node
  pub nodes : (P : ℕ → Type 0) → ((m : ℕ) → m < 2 → P m) → ((k : ℕ) → k < used → P (low_at c k) → P (high_at c k) → P (k + 2))
      → (m : ℕ) → m ≤ used + 1 → P m
  nodes P e r m h = go m m (le_refl m) h
    where
      go : (b m : ℕ) → m ≤ b → m ≤ used + 1 → P m
      go zero m l h = e m (omega arith)
      go (suc b) m l h =
          elim (node m) [
            | inl q ↦ e m q
            | inr (k, q) ↦
                let u : k < used = omega arith in
                let a = s.low k u in
                let d = s.high k u in
                rw q (r k u (go b (low_at c k) (omega arith) (omega arith)) (go b (high_at c k) (omega arith) (omega arith)))
          ]

-- ---- walks

pub child_is : (c : List ℕ) (k b : ℕ) (P : ℕ → Type 0) → P (low_at c k) → P (high_at c k) → P (child_at c k b)
child_is c k b P x y = go (eqb b 0)
  where
    go : (e : Bool) → P (cond e (low_at c k) (high_at c k))
    go true = x
    go false = y

-- one step of a walk comes to the child of the row
pub step-child : (c : List ℕ) (k row : ℕ) → step c k row ≡ child_at c k (bit row (flag_at c k))
unfolding step
step-child c k row = refl

pub step_is : (c : List ℕ) (k row : ℕ) (P : ℕ → Type 0) → P (low_at c k) → P (high_at c k) → P (step c k row)
unfolding step
step_is c k row P x y = child_is c k (bit row (flag_at c k)) P x y

module _ (c : List ℕ) (row : ℕ) where
  walk_stop : (a m : ℕ) → m < 2 → walk_in a c m row ≡ m
  unfolding walk_in
  walk_stop zero m h = refl
  walk_stop (suc a) m h =
      ap (λ (b : Bool). elim b [ true ↦ m | false ↦ walk_in a c (step c (record_of m) row) row ]) (lt-ltb m 2 h)

  walk_step : (a k : ℕ) → walk_in (suc a) c (k + 2) row ≡ walk_in a c (step c k row) row
  unfolding walk_in
  walk_step a k =
      let e : k + 2 - 2 ≡ k = omega arith in
      ap (λ (b : Bool). elim b [ true ↦ k + 2 | false ↦ walk_in a c (step c (record_of (k + 2)) row) row ]) (le-ltb (k + 2) 2 (omega arith))
      ∙ ap (λ (x : ℕ). walk_in a c (step c x row) row) e

-- a walk stops at an end node
pub walk_end : (c : List ℕ) (m row : ℕ) → m < 2 → walk c m row ≡ m
walk_end c m row h = walk_stop c row m m h

module _ {c : List ℕ} {used : ℕ} (s : Smaller c used) where
  step_lt : (k row : ℕ) → k < used → step c k row < k + 2
  step_lt k row h = step_is c k row (λ (m : ℕ). m < k + 2) (s.low k h) (s.high k h)

  -- what goes down from node m in at most so many steps: it stops at an end node, and at a record it goes on from the child
  module _ {A : Type 0} (row : ℕ) (f : ℕ → ℕ → A) (ends : ℕ → A) (on : ℕ → A → A) (stop : (a m : ℕ) → m < 2 → f a m ≡ ends m)
      (next : (a k : ℕ) → f (suc a) (k + 2) ≡ on k (f a (step c k row))) where
    -- more steps than the node's number change nothing
    enough : (a b m : ℕ) → m ≤ a → m ≤ b → m ≤ used + 1 → f a m ≡ f b m
    enough zero b m p q h = stop 0 m (omega arith) ∙ sym (stop b m (omega arith))
    enough (suc a) zero m p q h = stop (suc a) m (omega arith) ∙ sym (stop 0 m (omega arith))
    enough (suc a) (suc b) m p q h =
        elim (node m) [
          | inl l ↦ stop (suc a) m l ∙ sym (stop (suc b) m l)
          | inr (k, e) ↦
              let l = step_lt k row (omega arith) in
              subst (λ (x : ℕ). f (suc a) x ≡ f (suc b) x) (sym e)
              (next a k ∙ ap (on k) (enough a b (step c k row) (omega arith) (omega arith) (omega arith)) ∙ sym (next b k))
        ]

    -- so of a record it comes to what it does of the child
    pub at_record : (k : ℕ) → k < used → f (k + 2) (k + 2) ≡ on k (f (step c k row) (step c k row))
    at_record k h =
        let l = step_lt k row h in
        let e : k + 2 ≡ suc (k + 1) = omega arith in
        ap (λ (x : ℕ). f x (k + 2)) e
        ∙ next (k + 1) k
        ∙ ap (on k) (enough (k + 1) (step c k row) (step c k row) (omega arith) (le_refl _) (omega arith))

  -- a walk goes on from a record to a child
  pub walk_record : (k row : ℕ) → k < used → walk c (k + 2) row ≡ walk c (step c k row) row
  walk_record k row = at_record row (λ (a m : ℕ). walk_in a c m row) (λ (m : ℕ). m) (λ (k m : ℕ). m) (walk_stop c row) (walk_step c row) k

  -- and comes to an end node
  pub walk_lt : (m row : ℕ) → m ≤ used + 1 → walk c m row < 2
  walk_lt m row h =
      nodes s (λ (m : ℕ). walk c m row < 2) (λ m l. rw (walk_end c m row l) l)
      (λ k l a b. rw (walk_record k row l) (step_is c k row (λ (m : ℕ). walk c m row < 2) a b)) m h

-- ---- tables

pub length-tabled : (n : ℕ) (f : ℕ → ℕ) → length (tabled n f) ≡ 2 ^ n
length-tabled n f = length-map (below (2 ^ n)) f ∙ length_from 0 (2 ^ n)

pub tabled_row : (n : ℕ) (f : ℕ → ℕ) (r : ℕ) → r < 2 ^ n → get_or (tabled n f) r 0 ≡ f r
tabled_row n f r h = map_below f (2 ^ n) r 0 h

pub length_table : (n : ℕ) (c : List ℕ) (m : ℕ) → length (table_of n c m) ≡ 2 ^ n
length_table n c m = length-tabled n (walk c m)

pub table_row : (n : ℕ) (c : List ℕ) (m r : ℕ) → r < 2 ^ n → get_or (table_of n c m) r 0 ≡ walk c m r
table_row n c m r h = tabled_row n (walk c m) r h

-- tables of n flags are equal by their rows
pub rows_eq : (n : ℕ) (t u : List ℕ) → length t ≡ 2 ^ n → length u ≡ 2 ^ n → ((r : ℕ) → r < 2 ^ n → get_or t r 0 ≡ get_or u r 0) → t ≡ u
rows_eq n t u a b f = ext_get_or 0 t u (a ∙ sym b) (λ r h. f r (omega arith))

-- the answers are 0 and 1
pub fit_table : {c : List ℕ} {used : ℕ} → Smaller c used → (n m : ℕ) → m ≤ used + 1 → fit_rows (table_of n c m) ≡ true
unfolding fit_rows
fit_table {c} s n m h =
    in_each_lem _ _ (λ x i.
    let (r, j, e) = of_map (walk c m) (below (2 ^ n)) i in
    lt-ltb x 2 (omega (arith, walk_lt s m r h)))

-- ---- cells that agree on the first k records

module _ (c d : List ℕ) (k : ℕ) (agree : (i : ℕ) → i < k * width → get_or c i 0 ≡ get_or d i 0) where
  pub flag_kept : (j : ℕ) → j < k → flag_at c j ≡ flag_at d j
  unfolding flag_at
  flag_kept j h = agree (j * width) (omega arith)

  pub low_kept : (j : ℕ) → j < k → low_at c j ≡ low_at d j
  unfolding low_at
  low_kept j h = agree (j * width + 1) (omega arith)

  pub high_kept : (j : ℕ) → j < k → high_at c j ≡ high_at d j
  unfolding high_at
  high_kept j h = agree (j * width + 2) (omega arith)

  pub smaller_kept : Smaller c k → Smaller d k
  smaller_kept s =
      record { low = λ j h. omega (arith, low_kept j h, s.low j h); high = λ j h. omega (arith, high_kept j h, s.high j h) }

  pub walk_kept : Smaller c k → (m row : ℕ) → m ≤ k + 1 → walk c m row ≡ walk d m row
  unfolding step
  walk_kept s m row h =
      nodes s (λ (m : ℕ). walk c m row ≡ walk d m row) (λ m l. walk_end c m row l ∙ sym (walk_end d m row l))
      (λ j l a b.
      walk_record s j row l
      ∙ step_is c j row (λ (m : ℕ). walk c m row ≡ walk d m row) a b
      ∙ ap (λ (x : ℕ). walk d x row) (rw (flag_kept j l, low_kept j l, high_kept j l))
      ∙ sym (walk_record (smaller_kept s) j row l)) m h

  -- have the same tables of their nodes
  pub table_kept : Smaller c k → (n m : ℕ) → m ≤ k + 1 → table_of n c m ≡ table_of n d m
  table_kept s n m h =
      rows_eq n (table_of n c m) (table_of n d m) (length_table n c m) (length_table n d m)
      (λ r l. table_row n c m r l ∙ walk_kept s m r h ∙ sym (table_row n d m r l))
