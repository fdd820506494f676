-- One step of a join: a terminal case, or the two nodes' branches by the first flag that either asks.
-- Assumes nothing.
use mathlib.Core.Path.{◌≡◌, refl, sym, ap₂, ◌∙◌}
use mathlib.Core.Logic.{inl, inr}
use mathlib.Core.List.{List}
use Prim.Native.Nat.{ℕ, ◌+◌, ◌≤◌, ◌<◌}
use native.Mathlib.Decide.{dec_lt}
use native.Mathlib.Omega.{arith}
use Rattle.rule.specs.Table.{cofactor}
use Rattle.rule.specs.Order.{flags}
use Rattle.rule.specs.Cells.{room, flag_at, record_of}
use Rattle.rule.specs.Walk.{walk, table_of}
use Rattle.rule.specs.Results.{join_table}
use Rattle.theory.specs.Child.{child}
use Rattle.theory.proofs.Canonical.{level_le}
use Rattle.theory.proofs.Walks.{smaller, walk_end, walk_lt, length_table, length-tabled}
use Rattle.theory.proofs.Apply.{join_cofactor, join_node, join_ignores}
use Rattle.levels.specs.declared.level.Levels.{Levels}
use Rattle.unique.specs.declared.node.Grown.{Grown}
use Rattle.unique.specs.Node.{grown}
use Rattle.unique.proofs.Branches.{Split}
use Rattle.apply.specs.Step.{earlier}
use Rattle.apply.specs.Grow.{Ready, From, Comes}
use Rattle.apply.proofs.Down.{lev, lev_of, ord, asks, ends, end_level, node_rows_lem, branch_from, branch_table, earlier_is, later_from, later_table, there}
use Rattle.terminals.specs.Terminal.{terminal}
use Rattle.std.specs.Prelude.{Some, None}
use Rattle.terminals.proofs.Terminals.{terminal_value, terminal_is, down_not}

module _ {l : Levels} {c index : List ℕ} {used at f g : ℕ} (r : Ready l c used index) (x : From l c used at f) (y : From l c used at g) where
  -- the earlier of the two
  before : {e : ℕ} → e ≡ earlier l.n l.order.places c f g
      → (lev_of l c e ≤ lev_of l c f) × (lev_of l c e ≤ lev_of l c g) × From l c used at e
  before {e} q =
      elim (earlier_is l.n l.order.places c f g) [
        | inl (a, h) ↦ rw (q, a) (omega arith, h, x)
        | inr (a, h) ↦ rw (q, a) (omega arith, omega arith, y)
      ]

  -- ---- a terminal case

  module _ (code : ℕ) {m : ℕ} (e : terminal code f g ≡ Some m) where
    at_most : at ≤ l.n
    at_most = omega (arith, x.later, level_le r.is_sound (ord r) f x.node)

    end_from : (k : ℕ) → k < 2 → From l c used at k
    end_from k h = record { node = omega arith; later = omega (arith, at_most, end_level r {m = k} h) }

    pub terminal_join : Comes l (join_table l.n code (table_of l.n c f) (table_of l.n c g)) at c used (grown used m) c index
    terminal_join =
        there r
        (terminal_is (λ (k : ℕ). From l c used at k) (end_from 0 (omega arith)) (end_from 1 (omega arith)) x y code e)
        (join_node l.n code c f g m
        (λ row.
        terminal_value (λ (k : ℕ). walk c k row) (walk_end c 0 row (omega arith)) (walk_end c 1 row (omega arith)) code
        (walk_lt (smaller r.is_sound) f row x.node)
        (walk_lt (smaller r.is_sound) g row y.node)
        e))

  -- ---- where there is none, the earlier node is a record, whose flag is the first that either asks

  module _ (code : ℕ) {e : ℕ} (down : terminal code f g ≡ None) (q : e ≡ earlier l.n l.order.places c f g) where
    pub is_record : 2 ≤ e
    is_record =
        elim (dec_lt e 2) [
          | yes h ↦
              let (a, b, z) = before q in
              let top = end_level r {m = e} h in
              absurd (down_not code f g down (ends r x (omega arith)) (ends r y (omega arith)))
          | no h ↦ omega arith
        ]

    pub top_fits : record_of e < room c
    top_fits = let (_, _, z) = before q in omega (arith, is_record, z.node, r.is_sound.fits)

    module _ {v : ℕ} (is : v ≡ flag_at c (record_of e)) where
      -- a flag of the order, not before level `at`, that neither asks after others
      pub top : (v < l.n) × (at ≤ lev l v) × (lev l v < l.n) × (lev l v ≤ lev_of l c f) × (lev l v ≤ lev_of l c g)
      top =
          let (a, b, z) = before q in
          let (flag, place, less) = asks r z is_record is in
          (flag, omega (arith, z.later), less, omega arith, omega arith)

      pub join_split : Split l.n l.order.places (lev l v) v (join_table l.n code (table_of l.n c f) (table_of l.n c g))
      join_split =
          let (flag, _, _, a, b) = top in
          record {
            is_order = ord r;
            rows = length-tabled l.n _;
            ignores = join_ignores l.n code (flags l.n l.order.places) (table_of l.n c f) (table_of l.n c g)
                (length_table l.n c f)
                (length_table l.n c g)
                (node_rows_lem r x a)
                (node_rows_lem r y b);
            flag = flag;
            place = refl;
          }

      -- the branches' rules joined are the joined rule's cofactor
      branch_rule : (b : ℕ) (d : List ℕ) (i j : ℕ) → b < 2 → table_of l.n d i ≡ cofactor v b (table_of l.n c f)
          → table_of l.n d j ≡ cofactor v b (table_of l.n c g)
          → join_table l.n code (table_of l.n d i) (table_of l.n d j) ≡ cofactor v b (join_table l.n code (table_of l.n c f) (table_of l.n c g))
      branch_rule b d i j bit s t =
          ap₂ (join_table l.n code) s t
          ∙ sym (join_cofactor l.n code (table_of l.n c f) (table_of l.n c g) (length_table l.n c f) (length_table l.n c g) v b top.0 bit)

      -- the low branches, and the high ones in the store as it has grown by then
      module _ {i j : ℕ} (f-is : i ≡ child c v 0 f) (g-is : j ≡ child c v 0 g) where
        pub low_from : {k : ℕ} → k ≡ lev l v → From l c used (k + 1) i × From l c used (k + 1) j
        low_from s =
            let (flag, _, _, a, b) = top in
            (branch_from r x flag a (omega arith) f-is s, branch_from r y flag b (omega arith) g-is s)

        pub low_rule : join_table l.n code (table_of l.n c i) (table_of l.n c j) ≡ cofactor v 0 (join_table l.n code (table_of l.n c f) (table_of l.n c g))
        low_rule =
            let (flag, _, _, a, b) = top in
            branch_rule 0 c i j (omega arith) (branch_table r x flag a (omega arith) f-is) (branch_table r y flag b (omega arith) g-is)

      module _ {t d next : List ℕ} {m : ℕ} {p : Grown} (z : Comes l t m c used p d next) {i j : ℕ} (f-is : i ≡ child c v 1 f) (g-is : j ≡ child c v 1 g) where
        pub high_from : {k : ℕ} → k ≡ lev l v → From l d p.used (k + 1) i × From l d p.used (k + 1) j
        high_from s =
            let (flag, _, _, a, b) = top in
            (later_from r z x flag a (omega arith) f-is s, later_from r z y flag b (omega arith) g-is s)

        pub high_rule : join_table l.n code (table_of l.n d i) (table_of l.n d j) ≡ cofactor v 1 (join_table l.n code (table_of l.n c f) (table_of l.n c g))
        high_rule =
            let (flag, _, _, a, b) = top in
            branch_rule 1 d i j (omega arith) (later_table r z x flag a (omega arith) f-is) (later_table r z y flag b (omega arith) g-is)
