-- The nodes that a node comes to where flags are fixed in the order's sequence: their tables are those that arise by fixing the flags.
-- Assumes nothing.
use mathlib.Core.Path.{◌≡◌, refl, sym, ap, ap₂, ◌∙◌}
use mathlib.Core.Logic.{◌⊎◌, inl, inr}
use mathlib.Core.Bool.{true, cond}
use mathlib.Core.List.Memᴰ.{append_cases}
use mathlib.Core.List.Memᴰ.{append_left}
use mathlib.Core.List.Memᴰ.{append_right}
use mathlib.Core.List.Memᴰ.{eq_of_singleton}
use mathlib.Core.List.Memᴰ.{head}
use mathlib.Core.List.{List, [], ◌∷◌, ◌++◌, map, map-append, Memᴰ as In}
use Prim.Native.Nat.{ℕ, zero, suc, ◌+◌, ◌-◌, ◌^◌, ◌≤◌, ◌<◌}
use native.Mathlib.Nat.{eq-or-lt_of_le}
use native.Mathlib.Decide.{ℕ_discrete}
use native.Mathlib.Omega.{arith}
use borrow.Author.Tests.{lt-ltb, le-ltb, eq-eqb, ne_eqb}
use lib.Dec.{eqb}
use lib.ListN.{length, get_or}
use Rattle.rule.specs.Bits.{bit, set_bit}
use Rattle.rule.specs.Table.{cofactor, fixings}
use Rattle.rule.specs.Order.{flags, level}
use Rattle.rule.specs.Cells.{flag_at}
use Rattle.rule.specs.Walk.{table_of}
use Rattle.rule.specs.Diagram.{reach}
use Rattle.theory.proofs.Bits.{set_bit_own}
use Rattle.theory.proofs.Cofactor.{cofactor_row}
use Rattle.theory.proofs.Sets.{Order}
use Rattle.theory.specs.Child.{child_at, child}
use Rattle.theory.specs.Level.{level_of}
use Rattle.theory.specs.Shape.{Shaped}
use Rattle.theory.proofs.Levels.{Turn, level_lt, level_one}
use Rattle.theory.proofs.Walks.{node, smaller, length_table}
use Rattle.theory.proofs.Reach.{reach_self, reach_split, reach_from, reach_cases, reach_trans}
use Rattle.theory.proofs.Canonical.{level_end, level_record, child_later, child_le, ignores, record_child}

-- the nodes that m comes to where the flags vs are fixed in all ways
unfoldable pub descents : List ℕ → List ℕ → ℕ → List ℕ
descents c [] m = m ∷ []
descents c (v ∷ vs) m = descents c vs (child c v 0 m) ++ descents c vs (child c v 1 m)

descents_split : (c : List ℕ) (v : ℕ) (vs : List ℕ) (m : ℕ) {q : ℕ} → In q (descents c (v ∷ vs) m)
    → (b : ℕ) × (b < 2) × In q (descents c vs (child c v b m))
unfolding descents
descents_split c v vs m i =
    elim (append_cases (descents c vs (child c v 0 m)) i) [ inl k ↦ (0, omega arith, k) | inr k ↦ (1, omega arith, k) ]

descents_join : (c : List ℕ) (v : ℕ) (vs : List ℕ) (m b : ℕ) {q : ℕ} → b < 2 → In q (descents c vs (child c v b m)) → In q (descents c (v ∷ vs) m)
unfolding descents
descents_join c v vs m zero h k = append_left (descents c vs (child c v 1 m)) k
descents_join c v vs m (suc zero) h k = append_right (descents c vs (child c v 0 m)) k
descents_join c v vs m (suc (suc b)) h k = absurd (omega arith)

pub child_end : (c : List ℕ) (v b m : ℕ) → m < 2 → child c v b m ≡ m
unfolding child
child_end c v b m h = rw (lt-ltb m 2 h)

pub child_record : (c : List ℕ) (v b k : ℕ) → child c v b (k + 2) ≡ cond (eqb (flag_at c k) v) (child_at c k b) (k + 2)
unfolding child
child_record c v b k =
    let e : k + 2 - 2 ≡ k = omega arith in
    rw (le-ltb (k + 2) 2 (omega arith), e)

module _ {n used : ℕ} {order c : List ℕ} (s : Shaped n order c used) (o : Order n (flags n order)) where
  -- ---- one flag is fixed

  -- a node whose level is not before that of v asks a later flag and stays, or asks v
  pub child_cases : (v m : ℕ) → m ≤ used + 1 → v < n → level (flags n order) v ≤ level_of n order c m
      → ((level (flags n order) v < level_of n order c m) × ((b : ℕ) → child c v b m ≡ m))
      ⊎ ((k : ℕ) × (k < used) × (m ≡ k + 2) × (flag_at c k ≡ v) × ((b : ℕ) → child c v b m ≡ child_at c k b))
  child_cases v m h hv l =
      elim (node m) [
        | inl e ↦ inl (omega (arith, level_end n order c m e, level_lt o v hv), λ b. child_end c v b m e)
        | inr (k, e) ↦
            elim (ℕ_discrete (flag_at c k) v) [
              | yes q ↦ inr (k, omega arith, e, q, λ b. ap (child c v b) e ∙ child_record c v b k ∙ rw (eq-eqb (flag_at c k) v q))
              | no q ↦
                  inl (
                    elim (eq-or-lt_of_le l) [
                      | inl z ↦
                          absurd
                          (q (level_one o (flag_at c k) v (s.flag k (omega arith)) hv (omega (arith, level_record n order c k, ap (level_of n order c) e))))
                      | inr z ↦ z
                    ],
                    λ b. rw e (child_record c v b k ∙ rw (ne_eqb (flag_at c k) v q)),
                  )
            ]
      ]

  -- the node that m comes to where v is b: its place, its level, its table, and that it is reached
  pub record Comes (v b m p : ℕ) : Type 0 where
    pub le : p ≤ used + 1
    pub later : level (flags n order) v < level_of n order c p
    pub table : cofactor v b (table_of n c m) ≡ table_of n c p
    pub reached : reach c m p ≡ true

  pub comes : (v b m : ℕ) → m ≤ used + 1 → v < n → level (flags n order) v ≤ level_of n order c m → b < 2 → Comes v b m (child c v b m)
  comes v b m h hv l hb =
      elim (child_cases v m h hv l) [
        | inl (q, e) ↦ rw (e b) (record { le = h; later = q; table = ignores s o v b m h hv q hb; reached = reach_self c m })
        | inr (k, u, x, f, e) ↦
            rw (e b, x, ← f)
            (record {
              le = child_le s o k b u;
              later = child_later s o k b u;
              table = record_child s o k b u hb;
              reached = reach_from (smaller s) k b (child_at c k b) u (reach_self c (child_at c k b));
            })
      ]

  -- a row in which v is b has the answer of the node that it comes to
  pub comes_row : {v b m p : ℕ} → Comes v b m p → (q : ℕ) → q < 2 ^ n → bit q v ≡ b → get_or (table_of n c p) q 0 ≡ get_or (table_of n c m) q 0
  comes_row {v} {b} {m} to q l e =
      ap (λ (t : List ℕ). get_or t q 0) (sym to.table)
      ∙ cofactor_row v b (table_of n c m) q (omega (arith, length_table n c m))
      ∙ ap (λ (x : ℕ). get_or (table_of n c m) x 0) (ap (set_bit q v) (sym e) ∙ set_bit_own q v)

  -- ---- all flags of a list are fixed

  -- the tables that arise by fixing flags from a node's level on are those of the nodes that it comes to
  pub fixings_descents : (vs : List ℕ) (l m : ℕ) → Turn n (flags n order) l vs → l ≤ level_of n order c m → m ≤ used + 1
      → fixings vs (table_of n c m) ≡ map (table_of n c) (descents c vs m)
  unfolding fixings descents
  fixings_descents [] l m t q h = refl
  fixings_descents (v ∷ vs) l m t q h =
      let a = comes v 0 m h t.0 (omega (arith, t.1)) (omega arith) in
      let b = comes v 1 m h t.0 (omega (arith, t.1)) (omega arith) in
      ap₂ {C = List (List ℕ)} ◌++◌
      (ap (fixings vs) a.table ∙ fixings_descents vs (suc l) (child c v 0 m) t.2 (omega (arith, t.1)) a.le)
      (ap (fixings vs) b.table ∙ fixings_descents vs (suc l) (child c v 1 m) t.2 (omega (arith, t.1)) b.le)
      ∙ sym (map-append (table_of n c) (descents c vs (child c v 0 m)) (descents c vs (child c v 1 m)))

  -- they stand at later levels, and are reached
  pub descents_in : (vs : List ℕ) (l m : ℕ) → Turn n (flags n order) l vs → l ≤ level_of n order c m → m ≤ used + 1 → {q : ℕ} → In q (descents c vs m)
      → (q ≤ used + 1) × (l + length vs ≤ level_of n order c q) × (reach c m q ≡ true)
  unfolding descents
  descents_in [] l m t x h {q} i = rw (eq_of_singleton i) (h, omega arith, reach_self c m)
  descents_in (v ∷ vs) l m t x h {q} i =
      let (b, hb, k) = descents_split c v vs m i in
      let a = comes v b m h t.0 (omega (arith, t.1)) hb in
      let r = descents_in vs (suc l) (child c v b m) t.2 (omega (arith, t.1)) a.le k in
      (r.0, omega arith, reach_trans (smaller s) m (child c v b m) q h a.reached r.2)

  -- a reached node stands at a later level, or is the node
  reach_level : (p m : ℕ) → m ≤ used + 1 → reach c m p ≡ true → (m ≡ p) ⊎ (level_of n order c m < level_of n order c p)
  reach_level p =
      reach_cases (smaller s) p (λ (m : ℕ). (m ≡ p) ⊎ (level_of n order c m < level_of n order c p)) (inl refl)
      (λ k b h r i.
      let e = level_record n order c k in
      let l = child_later s o k b h in
      inr (elim i [ inl q ↦ omega (arith, ap (level_of n order c) q) | inr q ↦ omega arith ]))

  -- a node of a later level than v is still reached where v is fixed to some b
  child_reaches : (v m p : ℕ) → m ≤ used + 1 → v < n → level (flags n order) v ≤ level_of n order c m
      → level (flags n order) v < level_of n order c p → reach c m p ≡ true → (b : ℕ) × (b < 2) × (reach c (child c v b m) p ≡ true)
  child_reaches v m p h hv l x r =
      elim (child_cases v m h hv l) [
        | inl (q, e) ↦ (0, omega arith, rw (e 0) r)
        | inr (k, u, y, f, e) ↦
            elim (reach_split (smaller s) k p u (rw y at r)) [
              | inl z ↦ absurd (omega (arith, ap (level_of n order c) z, level_record n order c k, ap (level (flags n order)) f))
              | inr w ↦ elim w [ inl z ↦ (0, omega arith, rw (e 0) z) | inr z ↦ (1, omega arith, rw (e 1) z) ]
            ]
      ]

  -- and those of the next level that are reached are among them
  pub reach_descents : (vs : List ℕ) (l m p : ℕ) → Turn n (flags n order) l vs → l ≤ level_of n order c m → m ≤ used + 1
      → level_of n order c p ≡ l + length vs → reach c m p ≡ true → In p (descents c vs m)
  unfolding descents
  reach_descents [] l m p t x h e r = elim (reach_level p m h r) [ inl q ↦ head (sym q) | inr q ↦ absurd (omega arith) ]
  reach_descents (v ∷ vs) l m p t x h e r =
      let (b, hb, q) = child_reaches v m p h t.0 (omega (arith, t.1)) (omega (arith, t.1)) r in
      let a = comes v b m h t.0 (omega (arith, t.1)) hb in
      descents_join c v vs m b hb (reach_descents vs (suc l) (child c v b m) p t.2 (omega (arith, t.1)) a.le (omega arith) q)
