-- The flags that a walk asks: step by step; that they go by the row's values of those flags alone; and by the table: in cells that draw a rule, a row's walk asks
-- just the flags that the rule, with the flags before them fixed as in the row, depends on, each once. So the rows whose walk asks a flag are counted by the
-- table, and so are the flags that all walks ask.
-- Assumes nothing.
use mathlib.Core.Path.{◌≡◌, refl, sym, ap, ◌∙◌}
use mathlib.Core.Logic.{inl, inr, ◌↔◌}
use mathlib.Core.Bool.{Bool, true, false, true≢false}
use mathlib.Core.List.{List, [], ◌∷◌, map}
use Prim.Native.Nat.{ℕ, zero, suc, ◌+◌, ◌-◌, ◌^◌, ◌≤◌, ◌<◌}
use native.Mathlib.Decide.{ℕ_discrete}
use native.Mathlib.Omega.{arith}
use borrow.Author.Tests.{lt-ltb, le-ltb, eqb-true, eq-eqb}
use lib.Dec.{eqb}
use lib.ListN.{length}
use Rattle.rule.specs.Bits.{bit, below, sum_over}
use Rattle.rule.specs.Tests.{add_if, keep}
use Rattle.rule.specs.Table.{cofactor, depends, restrict}
use Rattle.rule.specs.Level.{asked_by, asked_total, rows_asking}
use Rattle.rule.specs.Order.{flags, asked_before, level}
use Rattle.rule.specs.Sets.{flag_set}
use Rattle.rule.specs.Cells.{flag_at, record_of}
use Rattle.rule.specs.Walk.{step, walk, passed_in, records_passed, flags_asked, table_of, walks_asking, asked_in_all}
use Rattle.theory.specs.Child.{child_at}
use Rattle.theory.specs.Level.{level_of}
use Rattle.theory.specs.Shape.{Shaped, Smaller}
use Rattle.theory.proofs.Member.{In, head, tail, not-nil, cases_cons}
use Rattle.theory.proofs.Bits.{in_below, bit_lt}
use Rattle.theory.proofs.Tests.{same_bool, keep_same, keep_in, in_keep}
use Rattle.theory.proofs.Perm.{Once, Within, once_length, once_set, once_keep, once_from, later}
use Rattle.theory.proofs.FlagSet.{set_in}
use Rattle.theory.proofs.Scan.{more}
use Rattle.theory.proofs.Sums.{sum_same, sum_exchange, sum-count}
use Rattle.theory.proofs.Rows.{friedman_rows}
use Rattle.theory.proofs.Sets.{Order}
use Rattle.theory.proofs.Orders.{order_length}
use Rattle.theory.proofs.Levels.{Turn, level_lt, asked_here, asked_there, same_before, whole_turn}
use Rattle.theory.proofs.Walks.{node, smaller, nodes, step-child, step_is, walk_end, walk_record, at_record, length_table}
use Rattle.theory.proofs.Canonical.{level_record, child_later, child_le, ignores, node_ignores, record_child, asks}
use Rattle.theory.proofs.Reach.{Diagram}
use Rattle.theory.proofs.Descents.{child_cases}

-- ---- step by step

module _ (c : List ℕ) (row : ℕ) where
  passed_stop : (a m : ℕ) → m < 2 → passed_in a c m row ≡ []
  unfolding passed_in
  passed_stop zero m h = refl
  passed_stop (suc a) m h =
      ap (λ (b : Bool). elim b [ true ↦ [] | false ↦ record_of m ∷ passed_in a c (step c (record_of m) row) row ]) (lt-ltb m 2 h)

  passed_step : (a k : ℕ) → passed_in (suc a) c (k + 2) row ≡ k ∷ passed_in a c (step c k row) row
  unfolding passed_in
  passed_step a k =
      let e : k + 2 - 2 ≡ k = omega arith in
      ap (λ (b : Bool). elim b [ true ↦ [] | false ↦ record_of (k + 2) ∷ passed_in a c (step c (record_of (k + 2)) row) row ]) (le-ltb (k + 2) 2 (omega arith))
      ∙ ap {B = List ℕ} (λ (x : ℕ). x ∷ passed_in a c (step c x row) row) e

-- at an end node no record is passed, so no flag is asked
passed_end : (c : List ℕ) (m row : ℕ) → m < 2 → records_passed c m row ≡ []
passed_end c m row h = passed_stop c row m m h

pub asked_end : (c : List ℕ) (m row : ℕ) → m < 2 → flags_asked c m row ≡ []
asked_end c m row h = ap (map (flag_at c)) (passed_end c m row h)

module _ {c : List ℕ} {used : ℕ} (s : Smaller c used) where
  -- a record is passed, and then those of the walk from its child
  passed_record : (k row : ℕ) → k < used → records_passed c (k + 2) row ≡ k ∷ records_passed c (step c k row) row
  passed_record k row =
      at_record s row (λ (a m : ℕ). passed_in a c m row) (λ (m : ℕ). []) (λ (k : ℕ) (ks : List ℕ). k ∷ ks) (passed_stop c row) (passed_step c row) k

  pub asked_record : (k row : ℕ) → k < used → flags_asked c (k + 2) row ≡ flag_at c k ∷ flags_asked c (step c k row) row
  asked_record k row h = ap (map (flag_at c)) (passed_record k row h)

  -- children are smaller, so no more flags are asked than the node's number
  pub asked_few : (m row : ℕ) → m ≤ used + 1 → length (flags_asked c m row) ≤ m
  asked_few m row h =
      nodes s (λ (m : ℕ). length (flags_asked c m row) ≤ m) (λ m l. rw (asked_end c m row l) (omega arith))
      (λ k l a b.
      rw (asked_record k row l)
      (step_is c k row (λ (m : ℕ). suc (length (flags_asked c m row)) ≤ k + 2) (omega (arith, s.low k l)) (omega (arith, s.high k l)))) m h

-- a row with the same values of the flags asked passes the same records and comes to the same answer
abbrev pub Alike : List ℕ → ℕ → ℕ → ℕ → Type 0
Alike c row other m =
    ((v : ℕ) → In v (flags_asked c m row) → bit other v ≡ bit row v)
    → (records_passed c m other ≡ records_passed c m row) × (walk c m other ≡ walk c m row)

pub passed_alike : {c : List ℕ} {used : ℕ} → Smaller c used → (row other m : ℕ) → m ≤ used + 1 → Alike c row other m
passed_alike {c} s row other =
    nodes s (Alike c row other)
    (λ m l f. (passed_end c m other l ∙ sym (passed_end c m row l), walk_end c m other l ∙ sym (walk_end c m row l)))
    (λ k l low high f.
    let agree : (v : ℕ) → In v (flag_at c k ∷ flags_asked c (step c k row) row) → bit other v ≡ bit row v = λ v i. f v (rw (asked_record s k row l) i) in
    let same : step c k other ≡ step c k row = step-child c k other ∙ ap (child_at c k) (agree (flag_at c k) (head refl)) ∙ sym (step-child c k row) in
    let (records, answer) = step_is c k row (Alike c row other) low high (λ v i. agree v (tail i)) in (
      passed_record s k other l ∙ ap (λ (m : ℕ). k ∷ records_passed c m other) same ∙ ap (λ (ks : List ℕ). k ∷ ks) records ∙ sym (passed_record s k row l),
      walk_record s k other l ∙ ap (λ (m : ℕ). walk c m other) same ∙ answer ∙ sym (walk_record s k row l),
    ))

-- ---- the same by the table

module _ {n used : ℕ} {order c : List ℕ} (s : Shaped n order c used) (o : Order n (flags n order)) (row : ℕ) where
  asked_turns : (vs : List ℕ) (l m : ℕ) → Turn n (flags n order) l vs → l + length vs ≡ n → l ≤ level_of n order c m → m ≤ used + 1
      → flags_asked c m row ≡ asked_by vs (table_of n c m) row
  unfolding asked_by
  asked_turns [] l m t e q h =
      elim (node m) [
        | inl x ↦ asked_end c m row x
        | inr (k, x) ↦
            absurd (omega (arith, ap (level_of n order c) x, level_record n order c k, level_lt o (flag_at c k) (s.flag k (omega arith))))
      ]
  asked_turns (v ∷ vs) l m t e q h =
      elim (child_cases s o v m h t.0 (omega (arith, t.1))) [
        | inl (x, _) ↦
            rw (node_ignores s o m h v t.0 x, ignores s o v (bit row v) m h t.0 x (bit_lt row v))
            (asked_turns vs (suc l) m t.2 (omega arith) (omega (arith, t.1)) h)
        | inr (k, u, y, f, _) ↦
            rw (y, ← f, asks s o k u, record_child s o k (bit row (flag_at c k)) u (bit_lt row (flag_at c k)))
            (asked_record (smaller s) k row u
            ∙ ap (λ (x : ℕ). flag_at c k ∷ flags_asked c x row) (step-child c k row)
            ∙ ap (λ (us : List ℕ). flag_at c k ∷ us)
            (asked_turns vs (suc l) (child_at c k (bit row (flag_at c k))) t.2 (omega arith)
            (omega (arith, t.1, ap (level (flags n order)) f, child_later s o k (bit row (flag_at c k)) u))
            (child_le s o k (bit row (flag_at c k)) u)))
      ]

  -- the walk from a node asks these of the order's flags, by the node's table
  pub asked_by_lem : (m : ℕ) → m ≤ used + 1 → flags_asked c m row ≡ asked_by (flags n order) (table_of n c m) row
  asked_by_lem m h = asked_turns (flags n order) 0 m (whole_turn o) (omega (arith, order_length n (flags n order) o)) (omega arith) h

-- ---- which flags these are

add_in : (b : Bool) (u v : ℕ) (l : List ℕ) → In v (add_if b u l) → In v (u ∷ l)
add_in true u v l m = m
add_in false u v l m = tail m

by_within : (vs t : List ℕ) (row : ℕ) → Within (asked_by vs t row) vs
unfolding asked_by
by_within [] t row x m = m
by_within (v ∷ vs) t row x m =
    elim (cases_cons (add_in (depends v t) v x (asked_by vs (cofactor v (bit row v) t) row) m)) [
      | inl e ↦ head e
      | inr k ↦ tail (by_within vs (cofactor v (bit row v) t) row x k)
    ]

by_once : (vs t : List ℕ) (row : ℕ) → Once vs → Once (asked_by vs t row)
unfolding asked_by
by_once [] t row o = tt
by_once (v ∷ vs) t row o = go (depends v t) (by_within vs (cofactor v (bit row v) t) row) (by_once vs (cofactor v (bit row v) t) row o.1)
  where
    go : (b : Bool) {us : List ℕ} → Within us vs → Once us → Once (add_if b v us)
    go true w p = (λ m. o.0 (w v m), p)
    go false w p = p

-- flag v is one of them exactly where the table with the flags before it fixed as in the row depends on it
by_in : (v : ℕ) (vs t : List ℕ) (row : ℕ) → Once vs → In v vs → In v (asked_by vs t row) ↔ (depends v (restrict (asked_before v vs) row t) ≡ true)
unfolding asked_by restrict
by_in v [] t row o m = absurd (not-nil m)
by_in v (u ∷ vs) t row o m = go (ℕ_discrete u v) (depends u t) refl (λ k. by_in v vs (cofactor u (bit row u) t) row o.1 k)
  where
    rest : List ℕ
    rest = asked_by vs (cofactor u (bit row u) t) row

    go : Dec (u ≡ v) → (b : Bool) → depends u t ≡ b
        → (In v vs → In v rest ↔ (depends v (restrict (asked_before v vs) row (cofactor u (bit row u) t)) ≡ true))
        → In v (add_if b u rest) ↔ (depends v (restrict (asked_before v (u ∷ vs)) row t) ≡ true)
    go (yes e) true d ih = rw (asked_here u v vs e) (λ k. rw e at d, λ k. head (sym e))
    go (yes e) false d ih =
        rw (asked_here u v vs e) (
          λ k. absurd (o.0 (rw (← e) at (by_within vs (cofactor u (bit row u) t) row v k))),
          λ k. absurd (true≢false (sym k ∙ (rw e at d))),
        )
    go (no q) true d ih = rw (asked_there u v vs q) (λ k. (ih (later q m)).0 (later q k), λ k. tail ((ih (later q m)).1 k))
    go (no q) false d ih = rw (asked_there u v vs q) (ih (later q m))

-- ---- in cells

module _ {n used : ℕ} {order c : List ℕ} (s : Shaped n order c used) (o : Order n (flags n order)) (m : ℕ) (h : m ≤ used + 1) (row : ℕ) where
  -- each is a flag of the order's
  pub asked_flags : Within (flags_asked c m row) (flags n order)
  asked_flags v i = by_within (flags n order) (table_of n c m) row v (rw (asked_by_lem s o row m h) at i)

  -- none stands twice, so there are at most n
  pub asked_once_each : Once (flags_asked c m row)
  asked_once_each = rw (asked_by_lem s o row m h) (by_once (flags n order) (table_of n c m) row o.once)

  pub asked_most : length (flags_asked c m row) ≤ n
  asked_most =
      omega (arith, once_length (flags_asked c m row) (flags n order) asked_once_each asked_flags, order_length n (flags n order) o)

  -- the walk asks flag v exactly where the table with the flags before v fixed as in the row depends on v
  pub asked_in : (v : ℕ) → In v (flags_asked c m row) ↔ ((v < n) × (depends v (restrict (asked_before v (flags n order)) row (table_of n c m)) ≡ true))
  asked_in v = (
    λ i.
        let v<n : v < n = o.sound v (asked_flags v i) in
        (v<n, (by_in v (flags n order) (table_of n c m) row o.once (o.whole v v<n)).0 (rw (asked_by_lem s o row m h) at i)),
    λ (v<n, d). rw (asked_by_lem s o row m h) ((by_in v (flags n order) (table_of n c m) row o.once (o.whole v v<n)).1 d),
  )

-- ---- over all rows

module _ {n used : ℕ} {order c : List ℕ} (s : Shaped n order c used) (o : Order n (flags n order)) (m : ℕ) (h : m ≤ used + 1) where
  -- the rows whose walk asks v
  pub walks_asking_lem : (v : ℕ) → v < n → walks_asking n c m v ≡ rows_asking (asked_before v (flags n order)) v (table_of n c m)
  unfolding walks_asking rows_asking
  walks_asking_lem v v<n =
      rw (length_table n c m)
      (ap length
      (keep_same (λ (r : ℕ). eqb (bit (flag_set (flags_asked c m r)) v) 1) (λ (r : ℕ). depends v (restrict (asked_before v (flags n order)) r (table_of n c m)))
      (below (2 ^ n))
      (λ r i.
      let (a, b) = asked_in s o m h r v in
      same_bool _ _
      (λ e. (a ((set_in (flags_asked c m r) v).0 (eqb-true _ 1 e))).1)
      (λ e. eq-eqb _ 1 ((set_in (flags_asked c m r) v).1 (b (v<n, e)))))))

  -- and the flags that all walks ask
  pub asked_in_all_lem : asked_in_all n c m ≡ asked_total (flags n order) (table_of n c m)
  unfolding asked_in_all asked_total
  asked_in_all_lem =
      sum_same (λ r. length (flags_asked c m r)) (λ r. length (asked_by (flags n order) (table_of n c m) r)) (below (2 ^ n)) (λ r. ap length (asked_by_lem s o r m h))
      ∙ ap (λ (k : ℕ). sum_over (λ r. length (asked_by (flags n order) (table_of n c m) r)) (below k)) (sym (length_table n c m))

  -- the list of the flags asked has each once, so it is as long as their set is large
  flag_count_lem : (r : ℕ) → length (flags_asked c m r) ≡ length (keep (λ v. eqb (bit (flag_set (flags_asked c m r)) v) 1) (below n))
  flag_count_lem r =
      once_set (flags_asked c m r) (keep is_asked (below n)) (asked_once_each s o m h r) (once_keep is_asked (below n) (once_from 0 n))
      (λ v i. in_keep is_asked (below n) (in_below (o.sound v (asked_flags s o m h r v i))) (eq-eqb _ 1 ((set_in (flags_asked c m r) v).1 i)))
      (λ v i. (set_in (flags_asked c m r) v).0 (eqb-true _ 1 (keep_in is_asked (below n) i).1))
    where
      is_asked : ℕ → Bool
      is_asked v = eqb (bit (flag_set (flags_asked c m r)) v) 1

  -- so the total is the sum over the flags of the rows that ask each
  pub asked_by_flag : asked_in_all n c m ≡ sum_over (walks_asking n c m) (below n)
  unfolding asked_in_all walks_asking
  asked_by_flag =
      sum_same (λ r. length (flags_asked c m r)) (λ r. sum_over (λ v. more (eqb (bit (flag_set (flags_asked c m r)) v) 1)) (below n)) (below (2 ^ n))
      (λ r. flag_count_lem r ∙ sym (sum-count (λ v. eqb (bit (flag_set (flags_asked c m r)) v) 1) (below n)))
      ∙ sum_exchange (λ r v. more (eqb (bit (flag_set (flags_asked c m r)) v) 1)) (below (2 ^ n)) (below n)
      ∙ sum_same _ (walks_asking n c m) (below n) (λ v. sum-count (λ r. eqb (bit (flag_set (flags_asked c m r)) v) 1) (below (2 ^ n)))

-- Friedman's lemma of walks: as many rows' walks ask a flag under all orders that ask the same flags before it
pub friedman_walks : {n used used' root root' : ℕ} {order order' c d : List ℕ} → Diagram n order c used root → Diagram n order' d used' root'
    → Order n (flags n order) → Order n (flags n order') → table_of n c root ≡ table_of n d root' → (v : ℕ) → v < n
    → Within (asked_before v (flags n order)) (asked_before v (flags n order')) → Within (asked_before v (flags n order')) (asked_before v (flags n order))
    → walks_asking n c root v ≡ walks_asking n d root' v
friedman_walks {n} {root} {root'} {order'} {c} x y o o' e v hv w w' =
    walks_asking_lem x.cells o root x.root_is v hv
    ∙ same_before o o' v w w' (λ l. rows_asking l v (table_of n c root)) (friedman_rows n (table_of n c root) (length_table n c root) v)
    ∙ ap (rows_asking (asked_before v (flags n order')) v) e
    ∙ sym (walks_asking_lem y.cells o' root' y.root_is v hv)
