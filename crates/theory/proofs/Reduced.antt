-- Cells of the shape in which every record is reached are the ordered decision diagrams to which neither collapsing step applies.
-- Assumes nothing.
use mathlib.Core.Path.{◌≡◌, refl}
use mathlib.Core.List.{List}
use Prim.Native.Nat.{ℕ, ◌+◌, ◌-◌, ◌≤◌, ◌<◌}
use native.Mathlib.Omega.{arith}
use Rattle.rule.specs.Order.{flags}
use Rattle.rule.specs.Cells.{flag_at, low_at, high_at}
use Rattle.rule.specs.Sound.{shaped}
use Rattle.rule.specs.Reduced.{Equivalent, terminals, internal, Reduced, Ordered, DrawnAs}
use Rattle.theory.proofs.Tests.{and_join}
use Rattle.theory.specs.Shape.{Shaped, Smaller}
use Rattle.theory.proofs.Shape.{flags-below, children_differ_lem, children_smaller_lem, children_later_lem, none_equal_lem, laid_view, shape_view}
use Rattle.theory.proofs.Walks.{nodes}
use Rattle.theory.proofs.Reach.{Diagram, all_reached_lem}

-- in sound cells equivalent nodes are equal
pub equivalent_eq : {n used : ℕ} {order c : List ℕ} → Shaped n order c used → {m p : ℕ} → m ≤ used + 1 → p ≤ used + 1 → Equivalent c m p → m ≡ p
equivalent_eq s hm hp (terminals h e) = e
equivalent_eq {used} {c} s hm hp (internal {m = m} {p = p} a b f l h) =
    let j : m - 2 < used = omega arith in
    let k : p - 2 < used = omega arith in
    let x = equivalent_eq s (omega (arith, s.low_smaller (m - 2) j)) (omega (arith, s.low_smaller (p - 2) k)) l in
    let y = equivalent_eq s (omega (arith, s.high_smaller (m - 2) j)) (omega (arith, s.high_smaller (p - 2) k)) h in
    omega (arith, s.once (m - 2) (p - 2) j k f x y)

-- records with one flag and equivalent children are equivalent
records : (c : List ℕ) (j k : ℕ) → flag_at c j ≡ flag_at c k → Equivalent c (low_at c j) (low_at c k) → Equivalent c (high_at c j) (high_at c k)
    → Equivalent c (j + 2) (k + 2)
records c j k f l h =
    let x : j + 2 - 2 ≡ j = omega arith in
    let y : k + 2 - 2 ≡ k = omega arith in
    internal {m = j + 2} {p = k + 2} (omega arith) (omega arith) (rw (x, y) f) (rw (x, y) l) (rw (x, y) h)

pub equivalent_refl : {c : List ℕ} {used : ℕ} → Smaller c used → (m : ℕ) → m ≤ used + 1 → Equivalent c m m
equivalent_refl {c} s = nodes s (λ (m : ℕ). Equivalent c m m) (λ m l. terminals l refl) (λ k l x y. records c k k refl x y)

module _ (n : ℕ) (order c : List ℕ) (used root : ℕ) where
  -- a diagram is ordered, and neither collapsing step applies
  pub diagram_reduced : Diagram n order c used root → Ordered n order c used root × Reduced c used
  diagram_reduced d =
      let s = d.cells in (
        record {
          is_laid = (laid_view c used).1 (s.fits, s.clear);
          below = (flags-below n c used).1 s.flag;
          smaller = (children_smaller_lem c used).1 (λ k h. (s.low_smaller k h, s.high_smaller k h));
          later = (children_later_lem (flags n order) c used).1 (λ k h. (s.low_later k h, s.high_later k h));
          root_is = d.root_is;
          reached = (all_reached_lem c used root).1 d.reached;
        },
        record {
          step_i = λ k h q. s.differ k h (equivalent_eq s (omega (arith, s.low_smaller k h)) (omega (arith, s.high_smaller k h)) q);
          step_ii = λ j k l h q. let z = equivalent_eq s (omega arith) (omega arith) q in omega arith;
        },
      )

  -- and the other way round
  pub reduced_diagram : Ordered n order c used root → Reduced c used → Diagram n order c used root
  unfolding shaped
  reduced_diagram o r =
      record {
        cells =
            shape_view n order c used
            (and_join o.is_laid
            (and_join o.below
            (and_join ((children_differ_lem c used).1 (λ k h q. r.step_i k h (same q (omega (arith, (small k h).0)))))
            (and_join o.smaller
            (and_join o.later
            ((none_equal_lem c used).1 (λ k h j l q.
            let a = small j (omega arith) in
            r.step_ii j k l h (records c j k q.0 (same q.1.0 (omega arith)) (same q.1.1 (omega arith))))))))));
        root_is = o.root_is;
        reached = (all_reached_lem c used root).0 o.reached;
      }
    where
      small : (k : ℕ) → k < used → (low_at c k < k + 2) × (high_at c k < k + 2)
      small = (children_smaller_lem c used).0 o.smaller

      same : {m p : ℕ} → m ≡ p → m ≤ used + 1 → Equivalent c m p
      same {m} e h = rw (← e) (equivalent_refl (record { low = λ k h. (small k h).0; high = λ k h. (small k h).1 }) m h)

-- what is drawn is a diagram
pub drawn_diagram : {n used root : ℕ} {order t c : List ℕ} → DrawnAs n order t c used root → Diagram n order c used root
drawn_diagram {n} {used} {root} {order} {t} {c} x = reduced_diagram n order c used root x.ordered x.reduced
