-- One step of a recursion over nodes: down from a node by a flag, and from the two branches' nodes to the node of the rule. Join, choose and fix share it.
-- Assumes nothing.
use mathlib.Core.Path.{◌≡◌, refl, sym, ap, ◌∙◌}
use mathlib.Core.Logic.{◌⊎◌, inl, inr}
use mathlib.Core.List.{List}
use Prim.Native.Nat.{ℕ, ◌+◌, ◌≤◌, ◌<◌}
use native.Mathlib.Decide.{ℕ_discrete, dec_lt}
use native.Mathlib.Omega.{arith}
use borrow.Author.Tests.{le-leb, lt-leb, eq-eqb, ne_eqb}
use Rattle.rule.specs.Table.{cofactor}
use Rattle.rule.specs.Level.{nodes_of}
use Rattle.rule.specs.Order.{flags, level}
use Rattle.rule.specs.Cells.{flag_at, record_of}
use Rattle.rule.specs.Walk.{table_of}
use Rattle.theory.specs.Child.{child}
use Rattle.theory.specs.Level.{level_of}
use Rattle.theory.proofs.Sets.{Order}
use Rattle.theory.proofs.Orders.{fit_order_is}
use Rattle.theory.proofs.Levels.{level_lt}
use Rattle.theory.proofs.Walks.{node}
use Rattle.theory.proofs.Canonical.{level_end, level_record, child_later, node_ignores}
use Rattle.theory.proofs.Nodes.{Ignores}
use Rattle.theory.proofs.Growth.{grows_none, older, older_level}
use Rattle.theory.proofs.Descents.{child_end, child_record, comes}
use Rattle.levels.specs.declared.level.Levels.{Levels}
use Rattle.unique.specs.declared.node.Grown.{Grown}
use Rattle.std.specs.Prelude.{Option, Some, None}
use Rattle.record_index.specs.Index.{Indexed}
use Rattle.unique.specs.Node.{grown, MakesAbove}
use Rattle.unique.specs.Search.{FoundAs, Grew}
use Rattle.unique.proofs.Branches.{Split, no_room_low, both_branches}
use Rattle.apply.specs.Step.{Stands, earlier}
use Rattle.apply.specs.Grow.{Ready, From, Comes}

-- the level of a flag, and of a node
abbrev pub lev : Levels → ℕ → ℕ
lev l v = level (flags l.n l.order.places) v

abbrev pub lev_of : Levels → List ℕ → ℕ → ℕ
lev_of l c m = level_of l.n l.order.places c m

-- ---- nodes

module _ {l : Levels} {c index : List ℕ} {used : ℕ} (r : Ready l c used index) where
  pub ord : Order l.n (flags l.n l.order.places)
  ord = fit_order_is l.n l.order.places r.order_fits

  pub stands : {at m : ℕ} → From l c used at m → Stands l c m
  stands x =
      record { node = omega (arith, x.node, r.is_sound.fits); flag = λ g. r.is_sound.flag _ (omega (arith, x.node)) }

  -- a record's flag has its level
  pub asks : {at m v : ℕ} → From l c used at m → 2 ≤ m → v ≡ flag_at c (record_of m) → (v < l.n) × (lev l v ≡ lev_of l c m) × (lev l v < l.n)
  asks {at} {m} x h e =
      let q : record_of m + 2 ≡ m = omega arith in
      let flag = r.is_sound.flag (record_of m) (omega (arith, x.node)) in
      rw e (flag, sym (level_record l.n l.order.places c (record_of m)) ∙ ap (lev_of l c) q, level_lt ord (flag_at c (record_of m)) flag)

  -- a node before level n is a record
  pub record_before : {at m : ℕ} → From l c used at m → lev_of l c m < l.n → 2 ≤ m
  record_before {at} {m} x h =
      elim (node m) [
        | inl e ↦ absurd (omega (arith, level_end l.n l.order.places c m e))
        | inr (k, e) ↦ omega arith
      ]

  -- and one at level n an end node
  pub ends : {at m : ℕ} → From l c used at m → l.n ≤ lev_of l c m → m < 2
  ends {at} {m} x h =
      elim (node m) [
        | inl e ↦ e
        | inr (k, e) ↦
            absurd (omega (
              arith,
              ap (level_of l.n l.order.places c) e,
              level_record l.n l.order.places c k,
              level_lt ord (flag_at c k) (r.is_sound.flag k (omega (arith, x.node))),
            ))
      ]

  pub end_level : {m : ℕ} → m < 2 → lev_of l c m ≡ l.n
  end_level {m} h = level_end l.n l.order.places c m h

  -- a node whose rule ignores what stands before level k
  pub node_rows_lem : {at m : ℕ} → From l c used at m → {k : ℕ} → k ≤ lev_of l c m
      → Ignores l.n (flags l.n l.order.places) k (table_of l.n c m)
  node_rows_lem {at} {m} x h u hu g = node_ignores r.is_sound ord m x.node u hu (omega arith)

  -- the node p that m comes to where flag v, which m does not ask after others, is b
  module _ {at m v b p : ℕ} (x : From l c used at m) (flag : v < l.n) (h : lev l v ≤ lev_of l c m) (bit : b < 2) (e : p ≡ child c v b m) where
    pub branch_from : {j : ℕ} → j ≡ lev l v → From l c used (j + 1) p
    branch_from q =
        let y = comes r.is_sound ord v b m x.node flag h bit in
        rw (q, e) (record { node = y.le; later = omega (arith, y.later) })

    pub branch_table : table_of l.n c p ≡ cofactor v b (table_of l.n c m)
    branch_table = rw e (sym (comes r.is_sound ord v b m x.node flag h bit).table)

  -- where a flag is fixed a node comes to no earlier level
  pub child_level : {at m : ℕ} → From l c used at m → (v b : ℕ) → lev_of l c m ≤ lev_of l c (child c v b m)
  child_level {at} {m} x v b =
      elim (node m) [
        | inl e ↦ rw (child_end c v b m e) (omega arith)
        | inr (k, e) ↦
            elim (ℕ_discrete (flag_at c k) v) [
              | yes q ↦
                  rw (e, child_record c v b k, eq-eqb (flag_at c k) v q)
                  (omega (arith, level_record l.n l.order.places c k, child_later r.is_sound ord k b (omega (arith, x.node))))
              | no q ↦ rw (e, child_record c v b k, ne_eqb (flag_at c k) v q) (omega arith)
            ]
      ]

  -- a node that the store has of the rule
  pub there : {at m : ℕ} {t : List ℕ} → From l c used at m → table_of l.n c m ≡ t → Comes l t at c used (grown used m) c index
  there {at} {m} {t} x e =
      record {
        grew = record { grows = grows_none (nodes_of (flags l.n l.order.places) t) r.is_sound; is = record { node = x.node; table = e; later = x.later } };
        indexed = r.indexed;
      }

-- the earlier of two nodes stands before both
pub earlier_is : (n : ℕ) (order c : List ℕ) (f g : ℕ)
    → ((earlier n order c f g ≡ f) × (level_of n order c f ≤ level_of n order c g)) ⊎ ((earlier n order c f g ≡ g) × (level_of n order c g < level_of n order c f))
unfolding earlier
earlier_is n order c f g =
    elim (dec_lt (level_of n order c g) (level_of n order c f)) [
      | yes h ↦ inr (rw (lt-leb (level_of n order c f) (level_of n order c g) h), h)
      | no h ↦ inl (rw (le-leb (level_of n order c f) (level_of n order c g) (omega arith)), omega arith)
    ]

-- ---- a store that has grown

module _ {l : Levels} {t c d index next : List ℕ} {at used : ℕ} {p : Grown} (r : Ready l c used index) (x : Comes l t at c used p d next) where
  pub grown_ready : Ready l d p.used next
  grown_ready =
      record {
        order_fits = r.order_fits;
        is_sound = x.grew.grows.is_sound;
        small = omega (arith, r.small, x.grew.grows.lent);
        indexed = x.indexed;
      }

  pub grown_from : {k m : ℕ} → From l c used k m → From l d p.used k m
  grown_from {k} {m} y =
      record {
        node = omega (arith, y.node, x.grew.grows.grown);
        later = omega (arith, y.later, older_level x.grew.grows m y.node);
      }

  -- the node that an older node comes to, in the grown store
  module _ {k m v b q : ℕ} (y : From l c used k m) (flag : v < l.n) (h : lev l v ≤ lev_of l c m) (bit : b < 2) (e : q ≡ child c v b m) where
    pub later_from : {j : ℕ} → j ≡ lev l v → From l d p.used (j + 1) q
    later_from s = grown_from (branch_from r y flag h bit e s)

    pub later_table : table_of l.n d q ≡ cofactor v b (table_of l.n c m)
    later_table = older r.is_sound x.grew.grows q (branch_from r y flag h bit e refl).node ∙ branch_table r y flag h bit e

-- ---- the step

-- a node that asks no flag before a level asks none before an earlier one
grew_later : {n used k at : ℕ} {order t c d : List ℕ} {goal : List (List ℕ)} {r : Grown} → at ≤ k → Grew n order goal k t c used r d → Grew n order goal at t c used r d
grew_later {n} {used} {k} {at} {order} {t} {c} {d} {goal} {r} h x = record { grows = x.grows; is = go r.found x.is }
  where
    go : (f : Option ℕ) → FoundAs f n order goal k t d r.used → FoundAs f n order goal at t d r.used
    go (Some m) y = record { node = y.node; table = y.table; later = omega (arith, y.later) }
    go None y = y

module _ {l : Levels} {t c : List ℕ} {at top v used : ℕ} (s : Split l.n l.order.places top v t) (h : at ≤ top) where
  module _ {u d i : List ℕ} {p : Grown} {k : ℕ} (low_is : u ≡ cofactor v 0 t) (a : Comes l u k c used p d i) where
    pub full_low : p.found ≡ None → Comes l t at c used p d i
    full_low e = record { grew = grew_later h (no_room_low s low_is e a.grew); indexed = a.indexed }

    pub made : {w e j : List ℕ} {q : Grown} {m : ℕ} → w ≡ cofactor v 1 t → Comes l w m d p.used q e j → top < k → top < m → {low : ℕ} → p.found ≡ Some low
        → {r : Grown} {f n : List ℕ} → MakesAbove e v low q r f × Indexed f r.used n → Comes l t at c used r f n
    made high_is b x y at_low (g, z) = record { grew = grew_later h (both_branches s low_is high_is a.grew b.grew x y at_low g); indexed = z }
