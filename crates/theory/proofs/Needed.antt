-- The records that a rule needs beside those of a store, and its node: cells that keep the store's nodes and hold the rule have a record more for each node of the
-- rule's diagram that was lacking. Where each record that was added is such a node there are no others, and the rule's node is the last of them.
-- Assumes nothing.
use mathlib.Core.Path.{◌≡◌, refl, sym, ap, ◌∙◌, subst}
use mathlib.Core.Logic.{inl, inr}
use mathlib.Core.Bool.{Bool, true, false, not, true≢false, cond}
use mathlib.Core.List.{List, [], ◌∷◌, map}
use Prim.Native.Nat.{ℕ, zero, suc, ◌+◌, ◌-◌, ◌^◌, ◌≤◌, ◌<◌}
use native.Mathlib.Decide.{dec_lt}
use native.Mathlib.Omega.{arith}
use borrow.Author.Tests.{ne_eqb}
use lib.Dec.{eqb}
use lib.ListN.{length, length-map}
use Rattle.rule.specs.Bits.{from, below}
use Rattle.rule.specs.Tests.{among}
use Rattle.rule.specs.Level.{nodes_of, size}
use Rattle.rule.specs.Order.{flags}
use Rattle.rule.specs.Walk.{table_of}
use Rattle.rule.specs.Results.{record_tables, lacking, needed, first_with, made_node}
use Rattle.theory.proofs.Member.{In, head, tail, not-nil, cases_cons, cast, in_map, map-in}
use Rattle.theory.proofs.Bits.{length_from, from_in, in_from, below_in, in_below}
use Rattle.theory.proofs.Tests.{same?, among?, keep_in, in_keep, length_keep}
use Rattle.theory.proofs.Perm.{Once, later, once_length, once_keep, once_from, once_map}
use Rattle.theory.proofs.Sets.{Order}
use Rattle.theory.specs.Shape.{Shaped}
use Rattle.theory.proofs.Nodes.{nodes_once}
use Rattle.theory.proofs.Walks.{smaller, length_table}
use Rattle.theory.proofs.Reach.{reach_le}
use Rattle.theory.proofs.Canonical.{canonical}
use Rattle.theory.proofs.Counting.{node_record, node_reached, record_one}

-- ---- what is lacking

abbrev lacks : ℕ → List ℕ → ℕ → List ℕ → Bool
lacks n c used u = not (among u (record_tables n c used))

module _ (n : ℕ) (order c : List ℕ) (used : ℕ) (t : List ℕ) where
  -- a node of the rule that is the table of no record
  lacking_in : {u : List ℕ} → In u (lacking n order c used t) → In u (nodes_of (flags n order) t) × (In u (record_tables n c used) → ⊥)
  unfolding lacking
  lacking_in {u} m =
      let (i, e) = keep_in (lacks n c used) (nodes_of (flags n order) t) m in
      (i, elim (among? u (record_tables n c used)) [ inl (y, _) ↦ absurd (true≢false (sym e ∙ ap not y)) | inr (_, y) ↦ y ])

  in_lacking : {u : List ℕ} → In u (nodes_of (flags n order) t) → (In u (record_tables n c used) → ⊥) → In u (lacking n order c used t)
  unfolding lacking
  in_lacking {u} i f =
      in_keep (lacks n c used) (nodes_of (flags n order) t) i (elim (among? u (record_tables n c used)) [ inl (_, y) ↦ absurd (f y) | inr (y, _) ↦ ap not y ])

  lacking_once : Order n (flags n order) → length t ≡ 2 ^ n → Once (lacking n order c used t)
  unfolding lacking
  lacking_once o fit = once_keep (lacks n c used) (nodes_of (flags n order) t) (nodes_once o t fit)

  -- no more than the rule has nodes
  pub needed_size : needed n order c used t ≤ size (flags n order) t
  unfolding lacking
  needed_size = length_keep (lacks n c used) (nodes_of (flags n order) t)

-- ---- the first node of a rule

first_is : (n : ℕ) (c t : List ℕ) (m : ℕ) (ms : List ℕ) → In m ms → table_of n c m ≡ t → ((k : ℕ) → In k ms → table_of n c k ≡ t → k ≡ m) → first_with n c t ms ≡ m
unfolding first_with
first_is n c t m [] i e f = absurd (not-nil i)
first_is n c t m (k ∷ ms) i e f =
    elim (same? (table_of n c k) t) [
      | inl (q, y) ↦ ap (λ (b : Bool). elim b [ true ↦ k | false ↦ first_with n c t ms ]) q ∙ f k (head refl) y
      | inr (q, y) ↦
          ap (λ (b : Bool). elim b [ true ↦ k | false ↦ first_with n c t ms ]) q
          ∙ first_is n c t m ms (later (λ x. y (ap (table_of n c) x ∙ e)) i) e (λ j h. f j (tail h))
    ]

-- ---- cells that have grown

-- the tables of the records from `used` on
abbrev added : ℕ → List ℕ → ℕ → ℕ → List (List ℕ)
added n d used more = map (λ k. table_of n d (k + 2)) (from used (more - used))

module _ {n used more : ℕ} {order d : List ℕ} (c : List ℕ) (s : Shaped n order d more) (o : Order n (flags n order)) (le : used ≤ more)
    (kept : (k : ℕ) → k ≤ used + 1 → table_of n d k ≡ table_of n c k) (t : List ℕ) where
  added_length : length (added n d used more) ≡ more - used
  added_length = length-map (from used (more - used)) (λ k. table_of n d (k + 2)) ∙ length_from used (more - used)

  added_in : {u : List ℕ} → In u (added n d used more) → (k : ℕ) × (used ≤ k) × (k < more) × (table_of n d (k + 2) ≡ u)
  added_in m =
      let (k, i, e) = map-in (λ k. table_of n d (k + 2)) (from used (more - used)) m in
      let (a, b) = from_in used (more - used) k i in
      (k, a, omega arith, e)

  in_added : (k : ℕ) → used ≤ k → k < more → In (table_of n d (k + 2)) (added n d used more)
  in_added k a b = in_map (λ k. table_of n d (k + 2)) (in_from used (more - used) k a (omega arith))

  added_once : Once (added n d used more)
  added_once =
      once_map (λ k. table_of n d (k + 2)) (from used (more - used))
      (λ j k mj mk. record_one s o j k (omega (arith, from_in used (more - used) j mj)) (omega (arith, from_in used (more - used) k mk)))
      (once_from used (more - used))

  -- an older record keeps its table
  old_in : {u : List ℕ} → In u (record_tables n c used) → (j : ℕ) × (j < used) × (table_of n d (j + 2) ≡ u)
  old_in m =
      let (j, i, e) = map-in (λ k. table_of n c (k + 2)) (below used) m in
      let h : j < used = below_in i in
      (j, h, kept (j + 2) (omega arith) ∙ e)

  in_old : (j : ℕ) → j < used → In (table_of n d (j + 2)) (record_tables n c used)
  in_old j h = cast (kept (j + 2) (omega arith)) (in_map (λ k. table_of n c (k + 2)) (in_below h))

  -- cells that hold the rule have as many records more as are needed
  pub needed_least : (m : ℕ) → m ≤ more + 1 → table_of n d m ≡ t → used + needed n order c used t ≤ more
  needed_least m h e =
      omega (
        arith,
        once_length (lacking n order c used t) (added n d used more) (lacking_once n order c used t o (sym (ap length e) ∙ length_table n d m)) within,
        added_length,
      )
    where
      within : (u : List ℕ) → In u (lacking n order c used t) → In u (added n d used more)
      within u i =
          let (a, b) = lacking_in n order c used t i in
          let (k, l, _, q) = node_record s o m h (subst (λ (z : List ℕ). In u (nodes_of (flags n order) z)) (sym e) a) in
          elim (dec_lt k used) [ yes y ↦ absurd (b (cast (sym q) (in_old k y))) | no y ↦ cast (sym q) (in_added k (omega arith) l) ]

  -- each record that was added is called for
  module _ (called : (k : ℕ) → used ≤ k → k < more → In (table_of n d (k + 2)) (nodes_of (flags n order) t)) where
    added_lacking : (u : List ℕ) → In u (added n d used more) → In u (lacking n order c used t)
    added_lacking u i =
        let (k, a, b, e) = added_in i in
        cast (sym e)
        (in_lacking n order c used t (called k a b)
        (λ m. let (j, h, q) = old_in m in omega (arith, record_one s o j k (omega arith) b q)))

    -- then they are no more
    pub added_is : (k : ℕ) → used ≤ k → k < more → In (table_of n d (k + 2)) (lacking n order c used t)
    added_is k a b = added_lacking _ (in_added k a b)

    pub needed_most : more ≤ used + needed n order c used t
    needed_most = omega (arith, once_length (added n d used more) (lacking n order c used t) added_once added_lacking, added_length)

    -- and fewer where a node is lacking still
    pub needed_more : (u : List ℕ) → In u (nodes_of (flags n order) t) → ((k : ℕ) → k < more → table_of n d (k + 2) ≡ u → ⊥)
        → more < used + needed n order c used t
    needed_more u i f =
        omega (
          arith,
          once_length (u ∷ added n d used more) (lacking n order c used t) (λ m. let (k, a, b, e) = added_in m in f k b e, added_once)
              (λ v m.
              elim (cases_cons m) [
                | inl e ↦ cast e (in_lacking n order c used t i (λ z. let (j, h, q) = old_in z in f j (omega arith) q))
                | inr k ↦ added_lacking v k
              ]),
          added_length,
        )

    -- the rule's node is an older one where none was added, and else the last, from which the others are reached
    pub made_is : (m : ℕ) → m ≤ more + 1 → table_of n d m ≡ t → m ≡ made_node n order c used t
    made_is m h e = go (needed n order c used t) (omega (arith, needed_least m h e, needed_most))
      where
        go : (k : ℕ) → more ≡ used + k → m ≡ cond (eqb k 0) (first_with n c t (below (used + 2))) (used + k + 1)
        go zero l =
            sym
            (first_is n c t m (below (used + 2)) (in_below (omega arith)) (sym (kept m (omega arith)) ∙ e)
            (λ j i q.
            let b : j < used + 2 = below_in i in
            canonical s o j m (omega arith) h (kept j (omega arith) ∙ q ∙ sym e)))
        go (suc k) l =
            let j : used + k < more = omega arith in
            let i = subst (λ (z : List ℕ). In (table_of n d (used + k + 2)) (nodes_of (flags n order) z)) (sym e) (called (used + k) (omega arith) j) in
            let q = reach_le (smaller s) m (used + k + 2) h (node_reached s o (used + k) m j h i) in
            rw (ne_eqb (suc k) 0 (omega arith)) (omega arith)
