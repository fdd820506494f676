-- One step of a choice: an end node for the first rule or two equal arms, or the three nodes' branches by the first flag that any of them asks.
-- Assumes nothing.
use mathlib.Core.Path.{◌≡◌, refl, sym, ap, ◌∙◌}
use mathlib.Core.Logic.{inl, inr}
use mathlib.Core.List.{List}
use Prim.Native.Nat.{ℕ, ◌+◌, ◌≤◌, ◌<◌}
use native.Mathlib.Omega.{arith}
use Rattle.rule.specs.Table.{cofactor}
use Rattle.rule.specs.Order.{flags}
use Rattle.rule.specs.Cells.{room, flag_at, record_of}
use Rattle.rule.specs.Walk.{table_of}
use Rattle.rule.specs.Results.{choose_table}
use Rattle.theory.specs.Child.{child}
use Rattle.theory.proofs.Walks.{length_table, length-tabled}
use Rattle.theory.proofs.Apply.{choose_cofactor, end_table, choose_yes, choose_no, choose_same, choose_ignores}
use Rattle.levels.specs.declared.level.Levels.{Levels}
use Rattle.unique.specs.declared.node.Grown.{Grown}
use Rattle.unique.specs.Node.{grown}
use Rattle.unique.proofs.Branches.{Split}
use Rattle.apply.specs.Step.{earlier}
use Rattle.apply.specs.Grow.{Ready, From, Comes}
use Rattle.apply.proofs.Down.{lev, lev_of, ord, asks, record_before, node_rows_lem, branch_from, branch_table, earlier_is, later_from, later_table, there}

module _ {l : Levels} {c index : List ℕ} {used at f g h : ℕ} (r : Ready l c used index) (x : From l c used at f) (y : From l c used at g) (z : From l c used at h) where
  abbrev T : List ℕ
  T = choose_table l.n (table_of l.n c f) (table_of l.n c g) (table_of l.n c h)

  -- ---- the second rule or the third

  pub no_arm : f ≡ 0 → Comes l T at c used (grown used h) c index
  no_arm e =
      there r z
      (sym (ap (λ (t : List ℕ). choose_table l.n t (table_of l.n c g) (table_of l.n c h)) (ap (table_of l.n c) e ∙ end_table l.n c 0 (omega arith))
      ∙ choose_no l.n (table_of l.n c g) (table_of l.n c h) (length_table l.n c h)))

  pub yes_arm : f ≡ 1 → Comes l T at c used (grown used g) c index
  yes_arm e =
      there r y
      (sym (ap (λ (t : List ℕ). choose_table l.n t (table_of l.n c g) (table_of l.n c h)) (ap (table_of l.n c) e ∙ end_table l.n c 1 (omega arith))
      ∙ choose_yes l.n (table_of l.n c g) (table_of l.n c h) (length_table l.n c g)))

  pub equal_arms : g ≡ h → Comes l T at c used (grown used g) c index
  equal_arms e =
      there r y
      (sym (ap (λ (m : ℕ). choose_table l.n (table_of l.n c f) (table_of l.n c g) (table_of l.n c m)) (sym e)
      ∙ choose_same l.n (table_of l.n c f) (table_of l.n c g) (length_table l.n c g)))

  -- ---- the first flag that any of the three asks

  -- the earlier of the two arms
  pub earlier_from : {d : ℕ} → d ≡ earlier l.n l.order.places c g h → From l c used at d
  earlier_from p = elim (earlier_is l.n l.order.places c g h) [ inl (a, _) ↦ rw (p, a) y | inr (a, _) ↦ rw (p, a) z ]

  -- the earliest of the three
  before : {d e : ℕ} → d ≡ earlier l.n l.order.places c g h → e ≡ earlier l.n l.order.places c f d
      → (lev_of l c e ≤ lev_of l c f) × (lev_of l c e ≤ lev_of l c g) × (lev_of l c e ≤ lev_of l c h) × From l c used at e
  before {d} {e} p q =
      elim (earlier_is l.n l.order.places c g h) [
        | inl (a, u) ↦
            elim (earlier_is l.n l.order.places c f d) [
              | inl (b, v) ↦ rw (q, b) (omega arith, omega (arith, ap (lev_of l c) (p ∙ a)), omega (arith, ap (lev_of l c) (p ∙ a)), x)
              | inr (b, v) ↦ rw (q, b, p, a) (omega (arith, ap (lev_of l c) (p ∙ a)), omega arith, u, y)
            ]
        | inr (a, u) ↦
            elim (earlier_is l.n l.order.places c f d) [
              | inl (b, v) ↦ rw (q, b) (omega arith, omega (arith, ap (lev_of l c) (p ∙ a)), omega (arith, ap (lev_of l c) (p ∙ a)), x)
              | inr (b, v) ↦ rw (q, b, p, a) (omega (arith, ap (lev_of l c) (p ∙ a)), omega arith, omega arith, z)
            ]
      ]

  -- the first rule's node is a record, so it is one
  module _ (no : f ≡ 0 → ⊥) (yes' : f ≡ 1 → ⊥) {d e : ℕ} (p : d ≡ earlier l.n l.order.places c g h) (q : e ≡ earlier l.n l.order.places c f d) where
    pub is_record : 2 ≤ e
    is_record =
        let (a, _, _, w) = before p q in
        let (_, place, less) = asks r x (omega arith) refl in
        record_before r w (omega arith)

    pub top_fits : record_of e < room c
    top_fits = let (_, _, _, w) = before p q in omega (arith, is_record, w.node, r.is_sound.fits)

    module _ {v : ℕ} (is : v ≡ flag_at c (record_of e)) where
      pub top : (v < l.n) × (at ≤ lev l v) × (lev l v < l.n) × (lev l v ≤ lev_of l c f) × (lev l v ≤ lev_of l c g) × (lev l v ≤ lev_of l c h)
      top =
          let (a, b, s, w) = before p q in
          let (flag, place, less) = asks r w is_record is in
          (flag, omega (arith, w.later), less, omega arith, omega arith, omega arith)

      pub choose_split : Split l.n l.order.places (lev l v) v T
      choose_split =
          let (flag, _, _, a, b, s) = top in
          record {
            is_order = ord r;
            rows = length-tabled l.n _;
            ignores = choose_ignores l.n (flags l.n l.order.places) (table_of l.n c f) (table_of l.n c g) (table_of l.n c h)
                (length_table l.n c f)
                (length_table l.n c g)
                (length_table l.n c h)
                (node_rows_lem r x a)
                (node_rows_lem r y b)
                (node_rows_lem r z s);
            flag = flag;
            place = refl;
          }

      -- the branches' rules chosen are the chosen rule's cofactor
      branch_rule : (b : ℕ) (d : List ℕ) (i j k : ℕ) → b < 2 → table_of l.n d i ≡ cofactor v b (table_of l.n c f)
          → table_of l.n d j ≡ cofactor v b (table_of l.n c g) → table_of l.n d k ≡ cofactor v b (table_of l.n c h)
          → choose_table l.n (table_of l.n d i) (table_of l.n d j) (table_of l.n d k) ≡ cofactor v b T
      branch_rule b d i j k bit s t u =
          rw (s, t, u)
          (sym (choose_cofactor l.n (table_of l.n c f) (table_of l.n c g) (table_of l.n c h) (length_table l.n c f) (length_table l.n c g) (length_table l.n c h) v b top.0 bit))

      -- the low branches, and the high ones in the store as it has grown by then
      module _ {i j k : ℕ} (f-is : i ≡ child c v 0 f) (g-is : j ≡ child c v 0 g) (h-is : k ≡ child c v 0 h) where
        pub low_from : {m : ℕ} → m ≡ lev l v → From l c used (m + 1) i × From l c used (m + 1) j × From l c used (m + 1) k
        low_from s =
            let (flag, _, _, a, b, w) = top in
            (branch_from r x flag a (omega arith) f-is s, branch_from r y flag b (omega arith) g-is s, branch_from r z flag w (omega arith) h-is s)

        pub low_rule : choose_table l.n (table_of l.n c i) (table_of l.n c j) (table_of l.n c k) ≡ cofactor v 0 T
        low_rule =
            let (flag, _, _, a, b, w) = top in
            branch_rule 0 c i j k (omega arith)
            (branch_table r x flag a (omega arith) f-is)
            (branch_table r y flag b (omega arith) g-is)
            (branch_table r z flag w (omega arith) h-is)

      module _ {t grown-to next : List ℕ} {m : ℕ} {w : Grown} (grown-by : Comes l t m c used w grown-to next) {i j k : ℕ} (f-is : i ≡ child c v 1 f) (g-is : j ≡ child c v 1 g)
          (h-is : k ≡ child c v 1 h) where
        pub high_from : {m : ℕ} → m ≡ lev l v → From l grown-to w.used (m + 1) i × From l grown-to w.used (m + 1) j × From l grown-to w.used (m + 1) k
        high_from s =
            let (flag, _, _, a, b, s') = top in (
              later_from r grown-by x flag a (omega arith) f-is s,
              later_from r grown-by y flag b (omega arith) g-is s,
              later_from r grown-by z flag s' (omega arith) h-is s,
            )

        pub high_rule : choose_table l.n (table_of l.n grown-to i) (table_of l.n grown-to j) (table_of l.n grown-to k) ≡ cofactor v 1 T
        high_rule =
            let (flag, _, _, a, b, s') = top in
            branch_rule 1 grown-to i j k (omega arith)
            (later_table r grown-by x flag a (omega arith) f-is)
            (later_table r grown-by y flag b (omega arith) g-is)
            (later_table r grown-by z flag s' (omega arith) h-is)
