-- Records of one table, in whichever sound cells, match: the table says which flag is asked, as the first in the order that it depends on, and its cofactors
-- there are the tables of the children. So the diagrams of one table have the same records, but for the sequence.
-- Assumes nothing.
use mathlib.Core.Path.{◌≡◌, sym, ap, ap₂, ◌∙◌, subst}
use mathlib.Core.Bool.{true}
use mathlib.Core.List.{List}
use Prim.Native.Nat.{ℕ, ◌+◌, ◌-◌, ◌≤◌, ◌<◌}
use native.Mathlib.Decide.{dec_lt}
use native.Mathlib.Omega.{arith}
use Rattle.rule.specs.Table.{cofactor, depends}
use Rattle.rule.specs.Level.{nodes_of}
use Rattle.rule.specs.Order.{flags, level}
use Rattle.rule.specs.Cells.{flag_at}
use Rattle.rule.specs.Walk.{table_of}
use Rattle.rule.specs.Demands.{Matches}
use Rattle.theory.proofs.Member.{In}
use Rattle.theory.proofs.Sets.{Order}
use Rattle.theory.specs.Shape.{Shaped}
use Rattle.theory.proofs.Reach.{Diagram}
use Rattle.theory.proofs.Canonical.{level_record, record_low, record_high, asks, depends_asks}
use Rattle.theory.proofs.Counting.{record_node, node_record}

module _ {n used : ℕ} {order c : List ℕ} (s : Shaped n order c used) (o : Order n (flags n order)) where
  -- of the flags up to its own in the order a record's table depends on that one alone
  first_asked_lem : (v k : ℕ) → v < n → k < used → level (flags n order) v ≤ level (flags n order) (flag_at c k) → depends v (table_of n c (k + 2)) ≡ true
      → flag_at c k ≡ v
  first_asked_lem v k hv h l d =
      let e : k + 2 - 2 ≡ k = omega arith in
      sym (ap (flag_at c) e) ∙ (depends_asks s o v (k + 2) (omega arith) hv (omega (arith, level_record n order c k)) d).1

module _ {n used more : ℕ} {order c d : List ℕ} (s : Shaped n order c used) (z : Shaped n order d more) (o : Order n (flags n order)) where
  -- records of one table ask one flag
  same_flag : (k j : ℕ) → k < used → j < more → table_of n d (j + 2) ≡ table_of n c (k + 2) → flag_at d j ≡ flag_at c k
  same_flag k j h l e =
      elim (dec_lt (level (flags n order) (flag_at d j)) (level (flags n order) (flag_at c k))) [
        | yes q ↦
            sym (first_asked_lem s o (flag_at d j) k (z.flag j l) h (omega arith) (ap (depends (flag_at d j)) (sym e) ∙ asks z o j l))
        | no q ↦ first_asked_lem z o (flag_at c k) j (s.flag k h) l (omega arith) (ap (depends (flag_at c k)) e ∙ asks s o k h)
      ]

  same_record_lem : (k j : ℕ) → k < used → j < more → table_of n d (j + 2) ≡ table_of n c (k + 2) → Matches n c d k j
  same_record_lem k j h l e =
      let f = same_flag k j h l e in
      record {
        flag = f;
        low = sym (record_low z o j l) ∙ ap₂ (λ (v : ℕ) (t : List ℕ). cofactor v 0 t) f e ∙ record_low s o k h;
        high = sym (record_high z o j l) ∙ ap₂ (λ (v : ℕ) (t : List ℕ). cofactor v 1 t) f e ∙ record_high s o k h;
        table = e;
      }

-- each record of a diagram is in every other diagram of the table under the order
pub matching : {n used root more top : ℕ} {order c d : List ℕ} → Diagram n order c used root → Diagram n order d more top → Order n (flags n order)
    → table_of n c root ≡ table_of n d top → (k : ℕ) → k < used → (j : ℕ) × (j < more) × Matches n c d k j
matching {n} {root} {top} {order} {c} x y o e k h =
    let i =
    subst (λ (u : List ℕ). In (table_of n c (k + 2)) (nodes_of (flags n order) u)) e
    (record_node x.cells o k root h x.root_is (x.reached k h)) in
    let (j, l, _, q) = node_record y.cells o top y.root_is i in
    (j, l, same_record_lem x.cells y.cells o k j h l q)
