-- The packed order: of all orders with the fewest nodes those whose walks ask least, and of these the dictionary-first. And an order's nodes and the flags that
-- its walks ask, each as a sum over its flags of a cost that goes by the flag and the set of the flags still to be asked.
-- Assumes nothing.
use mathlib.Core.Path.{◌≡◌, refl, sym, ap, ap₂, ◌∙◌}
use mathlib.Core.List.{List, [], ◌∷◌}
use Prim.Native.Nat.{ℕ, ◌+◌, ◌-◌, ◌^◌, ◌≤◌, ◌<◌}
use native.Mathlib.Nat.{le_antisymm}
use native.Mathlib.Omega.{arith}
use lib.ListN.{length, length-append}
use Rattle.rule.specs.Bits.{bit, set_bit, below, sum_over}
use Rattle.rule.specs.Tests.{add_if}
use Rattle.rule.specs.Table.{cofactor, depends, restrict}
use Rattle.rule.specs.Level.{level_nodes, level_count, nodes_from, size, asked_by, asked_total, rows_asking}
use Rattle.rule.specs.Order.{Lex}
use Rattle.theory.proofs.Bits.{clear_le}
use Rattle.theory.proofs.Friedman.{Flags, BySet, friedman_set}
use Rattle.theory.proofs.Scan.{more}
use Rattle.theory.proofs.Sums.{length-add, sum_split, sum-none, sum-count}
use Rattle.theory.proofs.Restrict.{restrict_next}
use Rattle.theory.proofs.Rows.{friedman_rows}
use Rattle.theory.specs.Sets.{having}
use Rattle.theory.proofs.Dynamic.{Lists, lex_antisym, total}
use Rattle.theory.proofs.Sets.{having_exactly, Before, before_full, before_next, member_lt, full_lt, Order, order_lists}

-- o is, of all orders of n flags with the fewest nodes, the dictionary-first of those whose walks ask least
pub record IsPacked (n : ℕ) (t o : List ℕ) : Type 0 where
  pub order : Order n o
  pub fewest : (p : List ℕ) → Order n p → size o t ≤ size p t
  pub least : (p : List ℕ) → Order n p → size p t ≡ size o t → asked_total o t ≤ asked_total p t
  pub first : (p : List ℕ) → Order n p → size p t ≡ size o t → asked_total p t ≡ asked_total o t → Lex o p

-- there is at most one
pub packed_one : (n : ℕ) (t o p : List ℕ) → IsPacked n t o → IsPacked n t p → o ≡ p
packed_one n t o p a b =
    let e : size p t ≡ size o t = le_antisymm (b.fewest o a.order) (a.fewest p b.order) in
    let f : asked_total p t ≡ asked_total o t = le_antisymm (b.least o a.order (sym e)) (a.least p b.order e) in
    lex_antisym o p (a.first p b.order e f) (b.first o a.order (sym e) (sym f))

-- ---- flag by flag

-- the nodes are those of the first level and those of the rest
pub size-from : (before : List ℕ) (v : ℕ) (o t : List ℕ) → length (nodes_from before (v ∷ o) t) ≡ level_count before v t + length (nodes_from (v ∷ before) o t)
unfolding nodes_from
size-from before v o t = length-append (level_nodes before v t) (nodes_from (v ∷ before) o t)

-- what asking v costs while the flags of S are still to be asked: the nodes that ask v
unfoldable pub node_cost : ℕ → List ℕ → ℕ → ℕ → ℕ
node_cost n t S v = level_count (having 0 n S) v t

-- and the rows whose walk does
unfoldable pub row_cost : ℕ → List ℕ → ℕ → ℕ → ℕ
row_cost n t S v = rows_asking (having 0 n S) v t

-- what goes by the set of the flags asked before is the same whatever their sequence
by_set : (n S : ℕ) (before : List ℕ) → Before n S before → (f : List ℕ → ℕ) → BySet n f → f before ≡ f (having 0 n S)
by_set n S before p f same =
    let q = having_exactly 0 n S in
    same before (having 0 n S) p.once q.once (λ i m. q.whole i (p.sound i m)) (λ i m. p.whole i (q.sound i m)) (λ i m. (p.sound i m).0)

module _ (n : ℕ) (t : List ℕ) (fit : length t ≡ 2 ^ n) where
  node_cost_is : (S : ℕ) (before : List ℕ) → Before n S before → (v : ℕ) → level_count before v t ≡ node_cost n t S v
  unfolding node_cost
  node_cost_is S before p v = by_set n S before p (λ l. level_count l v t) (friedman_set n t fit v)

  row_cost_is : (S : ℕ) (before : List ℕ) → Before n S before → (v : ℕ) → rows_asking before v t ≡ row_cost n t S v
  unfolding row_cost
  row_cost_is S before p v = by_set n S before p (λ l. rows_asking l v t) (friedman_rows n t fit v)

  -- the flags that all walks ask from then on, where `before` were asked before
  asked_from : List ℕ → List ℕ → ℕ
  asked_from before o = sum_over (λ r. length (asked_by o (restrict before r t) r)) (below (length t))

  -- that is the rows that ask the first flag, and what the rest of the order asks
  asked_from_lem : (before : List ℕ) (v : ℕ) (o : List ℕ) → v < n → Flags n before
      → asked_from before (v ∷ o) ≡ rows_asking before v t + asked_from (v ∷ before) o
  unfolding asked_from asked_by rows_asking
  asked_from_lem before v o v<n f =
      sum_split
      (λ r. more (depends v (restrict before r t)))
      (λ r. length (asked_by o (restrict (v ∷ before) r t) r))
      (λ r. length (add_if (depends v (restrict before r t)) v (asked_by o (cofactor v (bit r v) (restrict before r t)) r)))
      (below (length t))
      (λ r.
      rw (restrict_next n r v before t fit v<n f)
      (length-add (depends v (restrict before r t)) v (asked_by o (restrict (v ∷ before) r t) r)))
      ∙ ap (λ (k : ℕ). k + asked_from (v ∷ before) o) (sum-count (λ r. depends v (restrict before r t)) (below (length t)))

  -- both sums, from any set on
  totals : (S : ℕ) (before o : List ℕ) → S < 2 ^ n → Before n S before → Lists S o
      → (length (nodes_from before o t) ≡ total (node_cost n t) S o) × (asked_from before o ≡ total (row_cost n t) S o)
  totals S before [] b p l = (unfold nodes_from in refl, unfold asked_from asked_by in sum-none (below (length t)))
  totals S before (v ∷ o) b p l =
      let v<n = member_lt n S v b l.0 in
      let (nodes, asked) = totals (set_bit S v 0) (v ∷ before) o (omega (arith, clear_le S v)) (before_next n S v before v<n l.0 p) l.1 in (
        size-from before v o t ∙ ap₂ ◌+◌ (node_cost_is S before p v) nodes,
        asked_from_lem before v o v<n (λ i m. (p.sound i m).0) ∙ ap₂ ◌+◌ (row_cost_is S before p v) asked,
      )

  pub size_total : (o : List ℕ) → Order n o → size o t ≡ total (node_cost n t) (2 ^ n - 1) o
  size_total o p = (totals (2 ^ n - 1) [] o (full_lt n) (before_full n) (order_lists n o p)).0

  pub rows_total : (o : List ℕ) → Order n o → asked_total o t ≡ total (row_cost n t) (2 ^ n - 1) o
  unfolding asked_total asked_from restrict
  rows_total o p = (totals (2 ^ n - 1) [] o (full_lt n) (before_full n) (order_lists n o p)).1
