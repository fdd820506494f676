-- Canonical diagrams: in sound cells, two nodes with one table are one node. And what the table of a node depends on.
-- Assumes nothing.
use mathlib.Core.Path.{◌≡◌, refl, sym, ap, ap₂, ◌∙◌}
use mathlib.Core.Logic.{◌⊎◌, inl, inr, ◌≢◌}
use mathlib.Core.Bool.{Bool, true, false, cond, true≢false}
use mathlib.Core.List.{List, map}
use Prim.Native.Nat.{ℕ, zero, suc, ◌+◌, ◌-◌, ◌^◌, ◌≤◌, ◌<◌}
use native.Mathlib.Decide.{dec_lt}
use native.Mathlib.Omega.{arith}
use borrow.Author.Tests.{lt-ltb, le-ltb}
use lib.Dec.{eqb}
use lib.ListN.{length, get_or, length-map}
use Rattle.rule.specs.Bits.{bit, set_bit, below}
use Rattle.rule.specs.Table.{cofactor, depends}
use Rattle.rule.specs.Order.{flags, level}
use Rattle.rule.specs.Cells.{flag_at, low_at, high_at, record_of}
use Rattle.rule.specs.Walk.{walk, table_of}
use Rattle.theory.proofs.Bits.{length_from, map_below, bit_lt, bit-same, bit_other, set_bit_lt, set_bit_own}
use Rattle.theory.proofs.Tests.{cond_same}
use Rattle.theory.proofs.Cofactor.{length-cofactor, cofactor_row, depends-false, not-depends}
use Rattle.theory.proofs.Sets.{Order, full_lt}
use Rattle.theory.specs.Level.{level_of}
use Rattle.theory.specs.Shape.{Shaped}
use Rattle.theory.proofs.Levels.{level_lt, level_one}
use Rattle.theory.proofs.Nodes.{Ignores}
use Rattle.theory.specs.Child.{child_at}
use Rattle.theory.proofs.Walks.{node, smaller, nodes, child_is, step-child, step_is, walk_end, walk_record, length_table, table_row, rows_eq}

-- ---- two tables joined by a flag

-- row r is that of a where flag v is 0, and that of b where it is 1
unfoldable pub mix : ℕ → List ℕ → List ℕ → List ℕ
mix v a b = map (λ r. cond (eqb (bit r v) 0) (get_or a r 0) (get_or b r 0)) (below (length a))

pub length-mix : (v : ℕ) (a b : List ℕ) → length (mix v a b) ≡ length a
unfolding mix
length-mix v a b = length-map (below (length a)) _ ∙ length_from 0 (length a)

pub mix_row : (v : ℕ) (a b : List ℕ) (r : ℕ) → r < length a → get_or (mix v a b) r 0 ≡ cond (eqb (bit r v) 0) (get_or a r 0) (get_or b r 0)
unfolding mix
mix_row v a b r h = map_below (λ (r : ℕ). cond (eqb (bit r v) 0) (get_or a r 0) (get_or b r 0)) (length a) r 0 h

-- a table joined with itself is itself
pub mix-same : (n v : ℕ) (t : List ℕ) → length t ≡ 2 ^ n → mix v t t ≡ t
mix-same n v t l =
    rows_eq n (mix v t t) t (length-mix v t t ∙ l) l (λ r h. mix_row v t t r (omega arith) ∙ cond_same (eqb (bit r v) 0) (get_or t r 0))

-- a table is joined from its cofactors
pub mix_cofactors : (n v : ℕ) (t : List ℕ) → length t ≡ 2 ^ n → mix v (cofactor v 0 t) (cofactor v 1 t) ≡ t
mix_cofactors n v t l =
    rows_eq n (mix v (cofactor v 0 t) (cofactor v 1 t)) t (length-mix v _ _ ∙ length-cofactor v 0 t ∙ l) l
    (λ r h.
    mix_row v (cofactor v 0 t) (cofactor v 1 t) r (omega (arith, length-cofactor v 0 t))
    ∙ pick r (bit r v) (bit_lt r v) refl (cofactor_row v (bit r v) t r (omega arith) ∙ ap (λ (x : ℕ). get_or t x 0) (set_bit_own r v)))
  where
    pick : (r b : ℕ) → b < 2 → bit r v ≡ b → get_or (cofactor v (bit r v) t) r 0 ≡ get_or t r 0
        → cond (eqb (bit r v) 0) (get_or (cofactor v 0 t) r 0) (get_or (cofactor v 1 t) r 0) ≡ get_or t r 0
    pick r zero h e q = rw e (rw e at q)
    pick r (suc zero) h e q = rw e (rw e at q)
    pick r (suc (suc b)) h e q = absurd (omega arith)

-- ---- the levels of nodes

pub level_end : (n : ℕ) (order c : List ℕ) (m : ℕ) → m < 2 → level_of n order c m ≡ n
unfolding level_of
level_end n order c m h = rw (lt-ltb m 2 h)

pub level_record : (n : ℕ) (order c : List ℕ) (k : ℕ) → level_of n order c (k + 2) ≡ level (flags n order) (flag_at c k)
unfolding level_of
level_record n order c k =
    let e : k + 2 - 2 ≡ k = omega arith in
    rw (le-ltb (k + 2) 2 (omega arith), e)

module _ {n used : ℕ} {order c : List ℕ} (s : Shaped n order c used) (o : Order n (flags n order)) where
  pub level_le : (m : ℕ) → m ≤ used + 1 → level_of n order c m ≤ n
  level_le m h =
      elim (node m) [
        | inl l ↦ omega (arith, level_end n order c m l)
        | inr (k, e) ↦ rw (e, level_record n order c k) (omega (arith, level_lt o (flag_at c k) (s.flag k (omega arith))))
      ]

  -- a child stands at a later level
  pub child_later : (k b : ℕ) → k < used → level (flags n order) (flag_at c k) < level_of n order c (child_at c k b)
  child_later k b h =
      child_is c k b (λ (m : ℕ). level (flags n order) (flag_at c k) < level_of n order c m)
      (later (low_at c k) (s.low_later k h))
      (later (high_at c k) (s.high_later k h))
    where
      later : (m : ℕ) → (2 ≤ m → level (flags n order) (flag_at c k) < level (flags n order) (flag_at c (record_of m)))
          → level (flags n order) (flag_at c k) < level_of n order c m
      later m f =
          elim (node m) [
            | inl l ↦ omega (arith, level_end n order c m l, level_lt o (flag_at c k) (s.flag k h))
            | inr (j, e) ↦
                let q : m - 2 ≡ j = omega arith in
                rw (e, level_record n order c j) (rw q at (f (omega arith)))
          ]

  pub child_le : (k b : ℕ) → k < used → child_at c k b ≤ used + 1
  child_le k b h =
      child_is c k b (λ (m : ℕ). m ≤ used + 1) (omega (arith, s.low_smaller k h)) (omega (arith, s.high_smaller k h))

  -- ---- a node ignores the flags that are asked before its own

  walk_ignores : (v b row : ℕ) → b < 2 → (m : ℕ) → m ≤ used + 1 → level (flags n order) v < level_of n order c m
      → walk c m (set_bit row v b) ≡ walk c m row
  walk_ignores v b row hb =
      nodes (smaller s) (λ (m : ℕ). level (flags n order) v < level_of n order c m → walk c m (set_bit row v b) ≡ walk c m row)
      (λ m l q. walk_end c m (set_bit row v b) l ∙ sym (walk_end c m row l))
      (λ k l x y q.
      let f : level (flags n order) v < level (flags n order) (flag_at c k) = rw (level_record n order c k) at q in
      let d : v ≢ flag_at c k = λ e. omega (arith, ap (level (flags n order)) e) in
      walk_record (smaller s) k (set_bit row v b) l
      ∙ ap (λ (m : ℕ). walk c m (set_bit row v b))
      (step-child c k (set_bit row v b) ∙ ap (child_at c k) (bit_other row v (flag_at c k) b hb d) ∙ sym (step-child c k row))
      ∙ step_is c k row (λ (m : ℕ). walk c m (set_bit row v b) ≡ walk c m row)
      (x (omega (arith, child_later k 0 l)))
      (y (omega (arith, child_later k 1 l)))
      ∙ sym (walk_record (smaller s) k row l))

  -- the rows of a node's cofactor
  cofactor_walk : (v b m r : ℕ) → v < n → b < 2 → r < 2 ^ n → get_or (cofactor v b (table_of n c m)) r 0 ≡ walk c m (set_bit r v b)
  cofactor_walk v b m r hv hb h =
      cofactor_row v b (table_of n c m) r (omega (arith, length_table n c m)) ∙ table_row n c m (set_bit r v b) (set_bit_lt n r v b h hv hb)

  -- a node's cofactor is another node's table if their walks say so
  cofactor_is : (v b m p : ℕ) → v < n → b < 2 → ((r : ℕ) → walk c m (set_bit r v b) ≡ walk c p r) → cofactor v b (table_of n c m) ≡ table_of n c p
  cofactor_is v b m p hv hb f =
      rows_eq n (cofactor v b (table_of n c m)) (table_of n c p) (length-cofactor v b (table_of n c m) ∙ length_table n c m) (length_table n c p)
      (λ r h. cofactor_walk v b m r hv hb h ∙ f r ∙ sym (table_row n c p r h))

  pub ignores : (v b m : ℕ) → m ≤ used + 1 → v < n → level (flags n order) v < level_of n order c m → b < 2
      → cofactor v b (table_of n c m) ≡ table_of n c m
  ignores v b m h hv l hb = cofactor_is v b m m hv hb (λ r. walk_ignores v b r hb m h l)

  pub node_ignores : (m : ℕ) → m ≤ used + 1 → Ignores n (flags n order) (level_of n order c m) (table_of n c m)
  node_ignores m h v hv l = not-depends v (table_of n c m) (ignores v 0 m h hv l (omega arith) ∙ sym (ignores v 1 m h hv l (omega arith)))

  -- ---- a record's cofactors by its own flag are its children

  pub record_child : (k b : ℕ) → k < used → b < 2 → cofactor (flag_at c k) b (table_of n c (k + 2)) ≡ table_of n c (child_at c k b)
  record_child k b h hb =
      cofactor_is (flag_at c k) b (k + 2) (child_at c k b) (s.flag k h) hb
      (λ r.
      walk_record (smaller s) k (set_bit r (flag_at c k) b) h
      ∙ ap (λ (m : ℕ). walk c m (set_bit r (flag_at c k) b)) (step-child c k (set_bit r (flag_at c k) b) ∙ ap (child_at c k) (bit-same r (flag_at c k) b hb))
      ∙ walk_ignores (flag_at c k) b r hb (child_at c k b) (child_le k b h) (child_later k b h))

  pub record_low : (k : ℕ) → k < used → cofactor (flag_at c k) 0 (table_of n c (k + 2)) ≡ table_of n c (low_at c k)
  record_low k h = record_child k 0 h (omega arith)

  pub record_high : (k : ℕ) → k < used → cofactor (flag_at c k) 1 (table_of n c (k + 2)) ≡ table_of n c (high_at c k)
  record_high k h = record_child k 1 h (omega arith)

  -- a record's table is joined from its children's
  pub table_mix : (k : ℕ) → k < used → table_of n c (k + 2) ≡ mix (flag_at c k) (table_of n c (low_at c k)) (table_of n c (high_at c k))
  table_mix k h =
      sym (mix_cofactors n (flag_at c k) (table_of n c (k + 2)) (length_table n c (k + 2)))
      ∙ ap₂ (mix (flag_at c k)) (record_low k h) (record_high k h)

  -- ---- one table, one node

  -- no record has the table of a node of a later level
  over : (m p : ℕ) → m ≤ used + 1 → p ≤ used + 1 → level_of n order c m < level_of n order c p → table_of n c m ≡ table_of n c p
      → ((q : ℕ) → q < m → table_of n c q ≡ table_of n c p → q ≡ p) → ⊥
  over m p hm hp l e ih =
      elim (node m) [
        | inl q ↦ omega (arith, level_end n order c m q, level_le p hp)
        | inr (k, q) ↦ record_over k q
      ]
    where
      record_over : (k : ℕ) → m ≡ k + 2 → ⊥
      record_over k q =
          let h : k < used = omega arith in
          let f : level (flags n order) (flag_at c k) < level_of n order c p = omega (arith, level_record n order c k, ap (level_of n order c) q) in
          let child : (b : ℕ) → b < 2 → table_of n c (child_at c k b) ≡ table_of n c p =
          λ b hb.
          sym (record_child k b h hb) ∙ ap (λ (x : ℕ). cofactor (flag_at c k) b (table_of n c x)) (sym q)
          ∙ ap (cofactor (flag_at c k) b) e ∙ ignores (flag_at c k) b p hp (s.flag k h) f hb in
          s.differ k h
          (ih (low_at c k) (omega (arith, s.low_smaller k h)) (child 0 (omega arith))
          ∙ sym (ih (high_at c k) (omega (arith, s.high_smaller k h)) (child 1 (omega arith))))

  -- two end nodes
  ends : (m p : ℕ) → m < 2 → p < 2 → table_of n c m ≡ table_of n c p → m ≡ p
  ends m p hm hp e =
      let l : 0 < 2 ^ n = omega (arith, full_lt n) in
      sym (table_row n c m 0 l ∙ walk_end c m 0 hm) ∙ ap (λ (t : List ℕ). get_or t 0 0) e ∙ table_row n c p 0 l ∙ walk_end c p 0 hp

  -- two records of one level
  beside : (j k : ℕ) → j < used → k < used → level (flags n order) (flag_at c j) ≡ level (flags n order) (flag_at c k)
      → table_of n c (j + 2) ≡ table_of n c (k + 2) → ((q r : ℕ) → q < j + 2 → r < k + 2 → table_of n c q ≡ table_of n c r → q ≡ r) → j ≡ k
  beside j k hj hk l e ih =
      let f : flag_at c j ≡ flag_at c k = level_one o (flag_at c j) (flag_at c k) (s.flag j hj) (s.flag k hk) l in
      let child : (b : ℕ) → b < 2 → table_of n c (child_at c j b) ≡ table_of n c (child_at c k b) =
      λ b hb. sym (record_child j b hj hb) ∙ ap₂ (λ (v : ℕ) (t : List ℕ). cofactor v b t) f e ∙ record_child k b hk hb in
      s.once j k hj hk f
      (ih (low_at c j) (low_at c k) (s.low_smaller j hj) (s.low_smaller k hk) (child 0 (omega arith)))
      (ih (high_at c j) (high_at c k) (s.high_smaller j hj) (s.high_smaller k hk) (child 1 (omega arith)))

  canonical_to : (d m p : ℕ) → m + p < d → m ≤ used + 1 → p ≤ used + 1 → table_of n c m ≡ table_of n c p → m ≡ p
  canonical_to zero m p b hm hp e = absurd (omega arith)
  canonical_to (suc d) m p b hm hp e =
      elim (dec_lt (level_of n order c m) (level_of n order c p)) [
        | yes l ↦ absurd (over m p hm hp l e (λ q h. canonical_to d q p (omega arith) (omega arith) hp))
        | no x ↦
            elim (dec_lt (level_of n order c p) (level_of n order c m)) [
              | yes l ↦ absurd (over p m hp hm l (sym e) (λ q h. canonical_to d q m (omega arith) (omega arith) hm))
              | no y ↦ same (node m) (node p) (omega arith) (λ q r hq hr. canonical_to d q r (omega arith) (omega arith) (omega arith))
            ]
      ]
    where
      same : (m < 2) ⊎ ((k : ℕ) × (m ≡ k + 2)) → (p < 2) ⊎ ((k : ℕ) × (p ≡ k + 2)) → level_of n order c m ≡ level_of n order c p
          → ((q r : ℕ) → q < m → r < p → table_of n c q ≡ table_of n c r → q ≡ r) → m ≡ p
      same (inl x) (inl y) l ih = ends m p x y e
      same (inl x) (inr (k, y)) l ih =
          absurd (omega (arith, level_end n order c m x, ap (level_of n order c) y, level_record n order c k, level_lt o (flag_at c k) (s.flag k (omega arith))))
      same (inr (j, x)) (inl y) l ih =
          absurd (omega (arith, level_end n order c p y, ap (level_of n order c) x, level_record n order c j, level_lt o (flag_at c j) (s.flag j (omega arith))))
      same (inr (j, x)) (inr (k, y)) l ih =
          let q =
          beside j k (omega arith) (omega arith)
          (sym (level_record n order c j) ∙ ap (level_of n order c) (sym x) ∙ l ∙ ap (level_of n order c) y ∙ level_record n order c k)
          (rw (x, y) at e)
          (λ q r hq hr. ih q r (omega arith) (omega arith)) in
          omega arith

  -- two nodes are one exactly where their rules agree on every row
  pub canonical : (m p : ℕ) → m ≤ used + 1 → p ≤ used + 1 → table_of n c m ≡ table_of n c p → m ≡ p
  canonical m p hm hp e = canonical_to (suc (m + p)) m p (omega arith) hm hp e

  -- ---- what a node's table depends on

  pub asks : (k : ℕ) → k < used → depends (flag_at c k) (table_of n c (k + 2)) ≡ true
  asks k h = go (depends (flag_at c k) (table_of n c (k + 2))) refl
    where
      go : (b : Bool) → depends (flag_at c k) (table_of n c (k + 2)) ≡ b → b ≡ true
      go true e = refl
      go false e =
          absurd
          (s.differ k h
          (canonical (low_at c k) (high_at c k) (child_le k 0 h) (child_le k 1 h)
          (sym (record_low k h) ∙ depends-false (flag_at c k) (table_of n c (k + 2)) e ∙ record_high k h)))

  -- of the flags up to a node's level its table depends on its own alone
  pub depends_asks : (v m : ℕ) → m ≤ used + 1 → v < n → level (flags n order) v ≤ level_of n order c m → depends v (table_of n c m) ≡ true
      → (2 ≤ m) × (flag_at c (record_of m) ≡ v)
  depends_asks v m h hv l d =
      elim (dec_lt (level (flags n order) v) (level_of n order c m)) [
        | yes q ↦ absurd (true≢false (sym d ∙ node_ignores m h v hv q))
        | no q ↦ elim (node m) [
          | inl x ↦ absurd (omega (arith, level_end n order c m x, level_lt o v hv))
          | inr (k, x) ↦ (
            omega arith,
            let y : m - 2 ≡ k = omega arith in
                rw y
                (level_one o (flag_at c k) v (s.flag k (omega arith)) hv
                (omega (arith, level_record n order c k, ap (level_of n order c) x))),
          )
        ]
      ]
