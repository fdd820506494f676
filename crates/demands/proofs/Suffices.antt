-- As many records more as a rule's diagram has nodes that were lacking are enough: beside any sound cells there are sound cells with just so many more that keep
-- the older nodes and hold the rule. The records of a diagram of the rule are added one by one, each whose table is not there yet.
-- Assumes nothing.
use mathlib.Core.Path.{◌≡◌, refl, sym, ap, ◌∙◌, subst}
use mathlib.Core.Logic.{inl, inr}
use mathlib.Core.Bool.{true}
use mathlib.Core.List.{List}
use Prim.Native.Nat.{ℕ, zero, suc, ◌+◌, ◌≤◌, ◌<◌}
use native.Mathlib.Nat.{eq-or-lt_of_le}
use native.Mathlib.Decide.{dec_lt}
use native.Mathlib.Omega.{arith}
use Rattle.rule.specs.Bits.{below}
use Rattle.rule.specs.Table.{depends}
use Rattle.rule.specs.Level.{nodes_of}
use Rattle.rule.specs.Order.{flags, level}
use Rattle.rule.specs.Cells.{flag_at, low_at, high_at, record_of}
use Rattle.rule.specs.Walk.{table_of}
use Rattle.rule.specs.Sound.{sound}
use Rattle.rule.specs.Results.{record_tables, needed}
use Rattle.rule.specs.Demands.{Fit}
use Rattle.theory.proofs.Member.{In, cast, in_map, map-in}
use Rattle.theory.proofs.Bits.{below_in, in_below}
use Rattle.theory.proofs.Tests.{among?}
use Rattle.theory.proofs.Orders.{fit_order_is}
use Rattle.theory.proofs.Sets.{Order}
use Rattle.theory.proofs.Levels.{level_lt}
use Rattle.theory.specs.Level.{level_of}
use Rattle.theory.specs.Shape.{Shaped}
use Rattle.theory.proofs.Sound.{sound_shape, shape_sound}
use Rattle.theory.proofs.Walks.{node, smaller, table_kept}
use Rattle.theory.proofs.Canonical.{level_end, level_record, child_later, mix, table_mix, canonical, asks, depends_asks}
use Rattle.theory.proofs.Reduced.{drawn_diagram}
use Rattle.theory.proofs.Counting.{record_node}
use Rattle.theory.proofs.Needed.{needed_least, needed_most}
use Rattle.record_index.specs.Find.{None}
use Rattle.cells.proofs.Added.{Added, longer, added_longer}
use Rattle.unique.proofs.Extend.{Allowed, extended}
use Rattle.demands.proofs.Exists.{exists}

-- a node stands later than a flag if a node of the same table does, in whichever cells
later : {n most more : ℕ} {order e d : List ℕ} → Shaped n order e most → Shaped n order d more → Order n (flags n order) → (v m p : ℕ) → v < n
    → m ≤ most + 1 → p ≤ more + 1 → table_of n d p ≡ table_of n e m → level (flags n order) v < level_of n order e m
    → level (flags n order) v < level_of n order d p
later {n} {most} {more} {order} {e} {d} z s o v m p hv hm hp t l =
    elim (node p) [
      | inl h ↦ omega (arith, level_end n order d p h, level_lt o v hv)
      | inr (i, q) ↦
          elim (dec_lt (level (flags n order) v) (level (flags n order) (flag_at d i))) [
            | yes h ↦ omega (arith, ap (level_of n order d) q, level_record n order d i)
            | no h ↦
                let (a, b) =
                depends_asks z o (flag_at d i) m hm (s.flag i (omega arith)) (omega arith)
                (ap (depends (flag_at d i)) (sym t ∙ ap (table_of n d) q) ∙ asks s o i (omega arith)) in
                let r : m ≡ record_of m + 2 = omega arith in
                let y : level_of n order e m ≡ level (flags n order) (flag_at d i) =
                ap (level_of n order e) r ∙ level_record n order e (record_of m) ∙ ap (level (flags n order)) b in
                absurd (omega arith)
          ]
    ]

-- the cells d keep the older nodes of c and hold the end nodes and the first j records of e; what they have more is called for
record Holds (n : ℕ) (order c : List ℕ) (used : ℕ) (goal : List (List ℕ)) (e : List ℕ) (j : ℕ) (d : List ℕ) (more : ℕ) : Type 0 where
  is_sound : Shaped n order d more
  grown : used ≤ more
  kept : (k : ℕ) → k ≤ used + 1 → table_of n d k ≡ table_of n c k
  has : (m : ℕ) → m ≤ j + 1 → (p : ℕ) × (p ≤ more + 1) × (table_of n d p ≡ table_of n e m)
  within : (k : ℕ) → used ≤ k → k < more → In (table_of n d (k + 2)) goal

module _ {n used most : ℕ} {order c e : List ℕ} (goal : List (List ℕ)) (s : Shaped n order c used) (z : Shaped n order e most) (o : Order n (flags n order))
    (called : (k : ℕ) → k < most → In (table_of n e (k + 2)) goal) where
  holds_none : Holds n order c used goal e 0 c used
  holds_none =
      record {
        is_sound = s;
        grown = omega arith;
        kept = λ k h. refl;
        has = λ m h. (
          m,
          omega arith,
          table_kept c e 0 (λ i l. absurd (omega arith)) (record { low = λ k l. absurd (omega arith); high = λ k l. absurd (omega arith) }) n m h,
        );
        within = λ k h l. absurd (omega arith);
      }

  module _ {j more : ℕ} {d : List ℕ} (x : Holds n order c used goal e j d more) (h : j < most) where
    -- the next record's table is there
    holds_there : (q : ℕ) → q < more → table_of n d (q + 2) ≡ table_of n e (j + 2) → Holds n order c used goal e (suc j) d more
    holds_there q l t =
        record {
          is_sound = x.is_sound;
          grown = x.grown;
          kept = x.kept;
          has = λ m b.
              elim (eq-or-lt_of_le b) [
                | inl i ↦ let y : m ≡ j + 2 = omega arith in (q + 2, omega arith, t ∙ ap (table_of n e) (sym y))
                | inr i ↦ x.has m (omega arith)
              ];
          within = x.within;
        }

    -- it is not: the record is added
    module _ (none : In (table_of n e (j + 2)) (record_tables n d more) → ⊥) (low high : ℕ) (hl : low ≤ more + 1) (hh : high ≤ more + 1)
        (tl : table_of n d low ≡ table_of n e (low_at e j)) (th : table_of n d high ≡ table_of n e (high_at e j)) where
      abbrev next : List ℕ
      next = longer d more (flag_at e j) low high

      mixed : mix (flag_at e j) (table_of n d low) (table_of n d high) ≡ table_of n e (j + 2)
      mixed = rw (tl, th) (sym (table_mix z o j h))

      absent : None d more (flag_at e j) low high
      absent k l is =
          none (cast (sym (table_mix x.is_sound o k l ∙ rw (is.flag_is, is.low_is, is.high_is) mixed)) (in_map (λ k. table_of n d (k + 2)) (in_below l)))

      low_le : low_at e j ≤ most + 1
      low_le = omega (arith, z.low_smaller j h)

      high_le : high_at e j ≤ most + 1
      high_le = omega (arith, z.high_smaller j h)

      allowed : Allowed n order d more (flag_at e j) low high
      allowed =
          record {
            flag = z.flag j h;
            differ = λ q. z.differ j h (canonical z o (low_at e j) (high_at e j) low_le high_le (sym tl ∙ ap (table_of n d) q ∙ th));
            low_old = hl;
            high_old = hh;
            low_later = later z x.is_sound o (flag_at e j) (low_at e j) low (z.flag j h) low_le hl tl (child_later z o j 0 h);
            high_later = later z x.is_sound o (flag_at e j) (high_at e j) high (z.flag j h) high_le hh th (child_later z o j 1 h);
            new = absent;
          }

      added : Added d more (flag_at e j) low high next
      added = added_longer (flag_at e j) low high x.is_sound.fits x.is_sound.clear

      next_sound : Shaped n order next (more + 1)
      next_sound = extended x.is_sound allowed added

      next_kept : (m : ℕ) → m ≤ more + 1 → table_of n next m ≡ table_of n d m
      next_kept m b = sym (table_kept d next more (λ i l. sym (added.agree i l)) (smaller x.is_sound) n m b)

      next_table : table_of n next (more + 2) ≡ table_of n e (j + 2)
      next_table =
          table_mix next_sound o more (omega arith)
          ∙ rw (added.flag_is, added.low_is, added.high_is, next_kept low hl, next_kept high hh) mixed

      holds_added : Holds n order c used goal e (suc j) next (more + 1)
      holds_added =
          record {
            is_sound = next_sound;
            grown = omega (arith, x.grown);
            kept = λ k b. next_kept k (omega (arith, x.grown)) ∙ x.kept k b;
            has = λ m b.
                elim (eq-or-lt_of_le b) [
                  | inl i ↦ let y : m ≡ j + 2 = omega arith in (more + 2, omega arith, next_table ∙ ap (table_of n e) (sym y))
                  | inr i ↦ let (p, hp, t) = x.has m (omega arith) in (p, omega arith, next_kept p hp ∙ t)
                ];
            within = λ k a b.
                elim (dec_lt k more) [
                  | yes l ↦ cast (next_kept (k + 2) (omega arith)) (x.within k a l)
                  | no l ↦
                      let y : k ≡ more = omega arith in
                      cast (ap (λ (i : ℕ). table_of n next (i + 2)) y ∙ next_table) (called j h)
                ];
          }

    holds_next : (d : List ℕ) × (more : ℕ) × Holds n order c used goal e (suc j) d more
    holds_next =
        elim (among? (table_of n e (j + 2)) (record_tables n d more)) [
          | inl (_, i) ↦ let (q, l, t) = map-in (λ k. table_of n d (k + 2)) (below more) i in (d, more, holds_there q (below_in l) t)
          | inr (_, none) ↦
              let (low, hl, tl) = x.has (low_at e j) (omega (arith, z.low_smaller j h)) in
              let (high, hh, th) = x.has (high_at e j) (omega (arith, z.high_smaller j h)) in
              (_, _, holds_added none low high hl hh tl th)
        ]

  holds : (j : ℕ) → j ≤ most → (d : List ℕ) × (more : ℕ) × Holds n order c used goal e j d more
  holds zero h = (c, used, holds_none)
  holds (suc j) h = let (d, more, x) = holds j (omega arith) in holds_next x (omega arith)

pub suffices : (n : ℕ) (order t : List ℕ) → Fit n order t → (c : List ℕ) (used : ℕ) → sound n order c used ≡ true
    → (d : List ℕ) × (m : ℕ) × (sound n order d (used + needed n order c used t) ≡ true) × ((k : ℕ) → k ≤ used + 1 → table_of n d k ≡ table_of n c k)
    × (m ≤ used + needed n order c used t + 1) × (table_of n d m ≡ t)
suffices n order t f c used sc =
    let (e, most, root, y) = exists n order t f in
    let z = drawn_diagram y in
    let (d, more, x) =
    holds (nodes_of (flags n order) t) (sound_shape n order c used sc) z.cells o
    (λ k h. subst (λ (u : List ℕ). In (table_of n e (k + 2)) (nodes_of (flags n order) u)) y.table
    (record_node z.cells o k root h z.root_is (z.reached k h))) most (omega arith) in
    let (m, hm, tm) = x.has root z.root_is in
    whole d more m x.is_sound x.grown x.kept x.within hm (tm ∙ y.table)
  where
    o : Order n (flags n order)
    o = fit_order_is n order f.order_fits

    whole : (d : List ℕ) (more m : ℕ) → Shaped n order d more → used ≤ more → ((k : ℕ) → k ≤ used + 1 → table_of n d k ≡ table_of n c k)
        → ((k : ℕ) → used ≤ k → k < more → In (table_of n d (k + 2)) (nodes_of (flags n order) t)) → m ≤ more + 1 → table_of n d m ≡ t
        → (d : List ℕ) × (m : ℕ) × (sound n order d (used + needed n order c used t) ≡ true) × ((k : ℕ) → k ≤ used + 1 → table_of n d k ≡ table_of n c k)
        × (m ≤ used + needed n order c used t + 1) × (table_of n d m ≡ t)
    whole d more m s le kept called hm tm =
        let is : more ≡ used + needed n order c used t =
        omega (arith, needed_least c s o le kept t m hm tm, needed_most c s o le kept t called) in
        (d, m, subst (λ (k : ℕ). sound n order d k ≡ true) is (shape_sound n order d more s), kept, omega arith, tm)
