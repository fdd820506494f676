-- The records of a diagram are the nodes that the levels count: how many ask each flag, and how many there are.
-- Assumes nothing.
use mathlib.Core.Path.{◌≡◌, sym, ap, ◌∙◌, subst}
use mathlib.Core.Bool.{Bool, true}
use mathlib.Core.List.Memᴰ.{cast}
use mathlib.Core.List.Memᴰ.{map as in_map}
use mathlib.Core.List.Memᴰ.{of_map}
use mathlib.Core.List.{List, map, Memᴰ as In}
use Prim.Native.Nat.{ℕ, ◌+◌, ◌-◌, ◌≤◌, ◌<◌}
use native.Mathlib.Omega.{arith}
use borrow.Author.Tests.{eqb-true, eq-eqb}
use lib.Dec.{eqb}
use lib.ListN.{length, length-map}
use Rattle.rule.specs.Bits.{below}
use Rattle.rule.specs.Tests.{keep}
use Rattle.rule.specs.Level.{level_nodes, level_count, nodes_of, size}
use Rattle.rule.specs.Order.{flags, asked_before}
use Rattle.rule.specs.Cells.{flag_at, record_of}
use Rattle.rule.specs.Walk.{table_of}
use Rattle.rule.specs.Diagram.{reach, asking}
use Rattle.theory.proofs.Bits.{length_from, below_in, in_below}
use Rattle.theory.proofs.Tests.{keep_in, in_keep}
use Rattle.theory.proofs.Perm.{once_map, Once, Within, once_set, once_keep, once_from}
use Rattle.theory.proofs.Friedman.{level_in, in_level, level_once, friedman_set}
use Rattle.theory.proofs.Sets.{Order}
use Rattle.theory.specs.Shape.{Shaped}
use Rattle.theory.proofs.Levels.{same_before, asked_turn}
use Rattle.theory.proofs.Nodes.{nodes_is, nodes_once}
use Rattle.theory.proofs.Walks.{length_table}
use Rattle.theory.proofs.Reach.{Diagram}
use Rattle.theory.proofs.Canonical.{level_record, canonical, asks, depends_asks}
use Rattle.theory.proofs.Descents.{descents, fixings_descents, descents_in, reach_descents}

module _ {n used : ℕ} {order c : List ℕ} (s : Shaped n order c used) (o : Order n (flags n order)) where
  -- ---- the nodes of a level are the records that ask its flag

  level_record_of : (v m : ℕ) → v < n → m ≤ used + 1 → {u : List ℕ} → In u (level_nodes (asked_before v (flags n order)) v (table_of n c m))
      → (k : ℕ) × (k < used) × (flag_at c k ≡ v) × (reach c m (k + 2) ≡ true) × (table_of n c (k + 2) ≡ u)
  level_record_of v m hv hm {u} i =
      let before = asked_before v (flags n order) in
      let (f, d) = level_in before v (table_of n c m) i in
      let (q, mq, e) = of_map (table_of n c) (descents c before m) (rw (fixings_descents s o before 0 m (asked_turn o v hv) (omega arith) hm) at f) in
      let (hq, lq, rq) = descents_in s o before 0 m (asked_turn o v hv) (omega arith) hm mq in
      back q hq (depends_asks s o v q hq hv (omega arith) (rw (← e) at d)) rq e
    where
      back : (q : ℕ) → q ≤ used + 1 → (2 ≤ q) × (flag_at c (record_of q) ≡ v) → reach c m q ≡ true → table_of n c q ≡ u
          → (k : ℕ) × (k < used) × (flag_at c k ≡ v) × (reach c m (k + 2) ≡ true) × (table_of n c (k + 2) ≡ u)
      back q h (a, f) r e = let y : q - 2 + 2 ≡ q = omega arith in (q - 2, omega arith, f, rw y r, rw y e)

  record_level : (k m : ℕ) → k < used → m ≤ used + 1 → reach c m (k + 2) ≡ true
      → In (table_of n c (k + 2)) (level_nodes (asked_before (flag_at c k) (flags n order)) (flag_at c k) (table_of n c m))
  record_level k m h hm r =
      let before = asked_before (flag_at c k) (flags n order) in
      let t = asked_turn o (flag_at c k) (s.flag k h) in
      in_level before (flag_at c k) (table_of n c m)
      (rw (fixings_descents s o before 0 m t (omega arith) hm)
      (in_map (table_of n c) (reach_descents s o before 0 m (k + 2) t (omega arith) hm (omega (arith, level_record n order c k)) r)))
      (asks s o k h)

  -- the nodes of a node's table are tables of records that are reached from it
  pub node_record : (m : ℕ) → m ≤ used + 1 → {u : List ℕ} → In u (nodes_of (flags n order) (table_of n c m))
      → (k : ℕ) × (k < used) × (reach c m (k + 2) ≡ true) × (table_of n c (k + 2) ≡ u)
  node_record m hm {u} i =
      let (v, hv, j) = (nodes_is o (table_of n c m) (length_table n c m) u).0 i in
      let (k, h, f, r, e) = level_record_of v m hv hm j in
      (k, h, r, e)

  -- and the tables of those records are nodes
  pub record_node : (k m : ℕ) → k < used → m ≤ used + 1 → reach c m (k + 2) ≡ true → In (table_of n c (k + 2)) (nodes_of (flags n order) (table_of n c m))
  record_node k m h hm r =
      (nodes_is o (table_of n c m) (length_table n c m) (table_of n c (k + 2))).1 (flag_at c k, s.flag k h, record_level k m h hm r)

  -- no two records have one table
  pub record_one : (j k : ℕ) → j < used → k < used → table_of n c (j + 2) ≡ table_of n c (k + 2) → j ≡ k
  record_one j k hj hk e = omega (arith, canonical s o (j + 2) (k + 2) (omega arith) (omega arith) e)

  -- records are as many as the tables that they have
  records_count : (ks : List ℕ) (us : List (List ℕ)) → Once ks → ((k : ℕ) → In k ks → k < used) → Once us
      → ((k : ℕ) → In k ks → In (table_of n c (k + 2)) us) → ((u : List ℕ) → In u us → (k : ℕ) × In k ks × (table_of n c (k + 2) ≡ u))
      → length ks ≡ length us
  records_count ks us p h q f g =
      sym (length-map ks (λ k. table_of n c (k + 2)))
      ∙ once_set (map (λ k. table_of n c (k + 2)) ks) us
      (once_map (λ k. table_of n c (k + 2)) ks (λ j k mj mk. record_one j k (h j mj) (h k mk)) p)
      q
      (λ u m. let (k, mk, e) = of_map (λ k. table_of n c (k + 2)) ks m in cast (sym e) (f k mk))
      (λ u m. let (k, mk, e) = g u m in cast (sym e) (in_map (λ k. table_of n c (k + 2)) mk))

  -- a record whose table is a node of another's table is reached from it
  pub node_reached : (k m : ℕ) → k < used → m ≤ used + 1 → In (table_of n c (k + 2)) (nodes_of (flags n order) (table_of n c m)) → reach c m (k + 2) ≡ true
  node_reached k m h hm i =
      let (j, hj, r, e) = node_record m hm i in
      subst (λ (x : ℕ). reach c m (x + 2) ≡ true) (record_one j k hj h e) r

-- ---- diagrams

module _ {n used root : ℕ} {order c : List ℕ} (d : Diagram n order c used root) (o : Order n (flags n order)) where
  -- as many records ask flag v as there are distinct rules that depend on v and arise by fixing the flags before it
  pub asking_level : (v : ℕ) → v < n → asking c used v ≡ level_count (asked_before v (flags n order)) v (table_of n c root)
  unfolding asking
  asking_level v hv =
      records_count d.cells o (keep asks_v (below used)) (level_nodes (asked_before v (flags n order)) v (table_of n c root))
      (once_keep asks_v (below used) (once_from 0 used))
      (λ k m. below_in (keep_in asks_v (below used) m).0)
      (level_once (asked_before v (flags n order)) v (table_of n c root))
      (λ k m.
      let (i, e) = keep_in asks_v (below used) m in
      subst (λ (w : ℕ). In (table_of n c (k + 2)) (level_nodes (asked_before w (flags n order)) w (table_of n c root)))
      (eqb-true (flag_at c k) v e)
      (record_level d.cells o k root (below_in i) d.root_is (d.reached k (below_in i))))
      (λ u m.
      let (k, h, f, r, e) = level_record_of d.cells o v root hv d.root_is m in
      (k, in_keep asks_v (below used) (in_below h) (eq-eqb (flag_at c k) v f), e))
    where
      asks_v : ℕ → Bool
      asks_v k = eqb (flag_at c k) v

  -- all in all as many as the nodes of the table's reduced ordered diagram
  pub used_size : used ≡ size (flags n order) (table_of n c root)
  used_size =
      sym (length_from 0 used)
      ∙ records_count d.cells o (below used) (nodes_of (flags n order) (table_of n c root)) (once_from 0 used) (λ k m. below_in m)
      (nodes_once o (table_of n c root) (length_table n c root))
      (λ k m. record_node d.cells o k root (below_in m) d.root_is (d.reached k (below_in m)))
      (λ u m. let (k, h, r, e) = node_record d.cells o root d.root_is m in (k, in_below h, e))

-- Friedman's lemma of diagrams: as many records ask a flag under all orders that ask the same flags before it
pub friedman_asking : {n used used' root root' : ℕ} {order order' c d : List ℕ} → Diagram n order c used root → Diagram n order' d used' root'
    → Order n (flags n order) → Order n (flags n order') → table_of n c root ≡ table_of n d root' → (v : ℕ) → v < n
    → Within (asked_before v (flags n order)) (asked_before v (flags n order')) → Within (asked_before v (flags n order')) (asked_before v (flags n order))
    → asking c used v ≡ asking d used' v
friedman_asking {n} {root} {order} {order'} {c} x y o o' e v hv w w' =
    asking_level x o v hv
    ∙ same_before o o' v w w' (λ l. level_count l v (table_of n c root)) (friedman_set n (table_of n c root) (length_table n c root) v)
    ∙ ap (level_count (asked_before v (flags n order')) v) e
    ∙ sym (asking_level y o' v hv)

-- two diagrams of one table under one order have as many records that ask each flag
pub same-asking : {n used used' root root' : ℕ} {order c d : List ℕ} → Diagram n order c used root → Diagram n order d used' root'
    → Order n (flags n order) → table_of n c root ≡ table_of n d root' → (v : ℕ) → v < n → asking c used v ≡ asking d used' v
same-asking x y o e v hv = friedman_asking x y o o e v hv (λ i m. m) (λ i m. m)
