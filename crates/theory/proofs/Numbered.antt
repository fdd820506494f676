-- Cells that hold the records of rules by their numbers: where the constants come first and each other rule, once, behind its two cofactors by the flag that it
-- asks, the cells are sound and node m has the table of rule m.
-- Assumes nothing.
use mathlib.Core.Path.{◌≡◌, refl, sym, ap, ◌∙◌}
use mathlib.Core.Bool.{true, true≢false}
use mathlib.Core.List.{List, []}
use Prim.Native.Nat.{ℕ, zero, suc, ◌+◌, ◌*◌, ◌^◌, ◌≤◌, ◌<◌}
use native.Mathlib.Decide.{dec_lt}
use native.Mathlib.Omega.{arith}
use lib.ListN.{length, get_or, replicate, length-replicate, get_or-replicate}
use Rattle.rule.specs.Table.{cofactor, depends}
use Rattle.rule.specs.Order.{flags, level}
use Rattle.rule.specs.Cells.{width, room, flag_at, low_at, high_at, record_of}
use Rattle.rule.specs.Walk.{table_of}
use Rattle.rule.specs.Sequence.{place, branch_in}
use Rattle.theory.proofs.Perm.{Once}
use Rattle.theory.proofs.Cofactor.{depends-true}
use Rattle.theory.proofs.Sets.{Order}
use Rattle.theory.proofs.Nodes.{ignores_cofactor}
use Rattle.theory.specs.Shape.{Shaped}
use Rattle.theory.proofs.Walks.{smaller, nodes, walk_end, length_table, table_row, rows_eq}
use Rattle.theory.proofs.Canonical.{mix_cofactors, table_mix}
use Rattle.theory.proofs.Place.{place_at, place_is, place_one}
use Rattle.theory.proofs.Rules.{Asks}

-- record k of the cells d is that of the rule with its number
pub record Holds (n : ℕ) (o : List ℕ) (rules : List (List ℕ)) (d : List ℕ) (k : ℕ) : Type 0 where
  pub flag : ℕ
  pub asks : Asks n o rules (get_or rules (k + 2) []) flag
  pub flag_is : flag_at d k ≡ flag
  pub low_is : low_at d k ≡ branch_in rules flag 0 (get_or rules (k + 2) [])
  pub high_is : high_at d k ≡ branch_in rules flag 1 (get_or rules (k + 2) [])

-- the cells hold the records of the rules and nothing else
pub record Numbered (n : ℕ) (order : List ℕ) (rules : List (List ℕ)) (d : List ℕ) (used : ℕ) : Type 0 where
  pub once : Once rules
  pub count : length rules ≡ used + 2
  pub no_is : get_or rules 0 [] ≡ replicate (2 ^ n) 0
  pub yes_is : get_or rules 1 [] ≡ replicate (2 ^ n) 1
  pub holds : (k : ℕ) → k < used → Holds n (flags n order) rules d k
  pub fits : used ≤ room d
  pub clear : (i : ℕ) → used * width ≤ i → get_or d i 0 ≡ 0

module _ {n used : ℕ} {order d : List ℕ} {rules : List (List ℕ)} (o : Order n (flags n order)) (x : Numbered n order rules d used) where
  -- the number of a record's rule
  number : (k : ℕ) → k < used → place (get_or rules (k + 2) []) rules ≡ k + 2
  number k h = place_at rules x.once (k + 2) (omega (arith, x.count))

  -- a branch is below the record's node
  branch_smaller : (k b : ℕ) → k < used → (h : Holds n (flags n order) rules d k) → b < 2 → branch_in rules h.flag b (get_or rules (k + 2) []) < k + 2
  branch_smaller k b l h hb = omega (arith, h.asks.behind b hb, number k l)

  -- and asks a later flag, where it is a record
  branch_later : (k b m : ℕ) → k < used → b < 2 → (h : Holds n (flags n order) rules d k) → m ≡ branch_in rules h.flag b (get_or rules (k + 2) []) → 2 ≤ m
      → level (flags n order) (flag_at d k) < level (flags n order) (flag_at d (record_of m))
  branch_later k b m l hb h e two =
      let a = h.asks in
      let u = get_or rules (k + 2) [] in
      let j : record_of m < used = omega (arith, branch_smaller k b l h hb) in
      let g = x.holds (record_of m) j in
      let y : record_of m + 2 ≡ m = omega arith in
      let is : get_or rules (record_of m + 2) [] ≡ cofactor h.flag b u =
      ap (λ (i : ℕ). get_or rules i []) (y ∙ e) ∙ place_is (cofactor h.flag b u) rules (a.held b hb) in
      let asked : depends g.flag (cofactor h.flag b u) ≡ true = ap (depends g.flag) (sym is) ∙ g.asks.asks in
      elim (dec_lt (level (flags n order) h.flag) (level (flags n order) g.flag)) [
        | yes q ↦ rw (h.flag_is, g.flag_is) q
        | no q ↦
            absurd
            (true≢false
            (sym asked ∙ ignores_cofactor o u a.rows a.ignores h.flag a.flag refl b hb g.flag g.asks.flag (omega arith)))
      ]

  -- records with one flag and the same children are one
  record_once : (j k : ℕ) → j < used → k < used → flag_at d j ≡ flag_at d k → low_at d j ≡ low_at d k → high_at d j ≡ high_at d k → j ≡ k
  record_once j k hj hk f l h =
      let a = x.holds j hj in
      let b = x.holds k hk in
      let u = get_or rules (j + 2) [] in
      let w = get_or rules (k + 2) [] in
      let q : a.flag ≡ b.flag = sym a.flag_is ∙ f ∙ b.flag_is in
      let low = place_one (cofactor a.flag 0 u) (cofactor b.flag 0 w) rules (a.asks.held 0 (omega arith)) (b.asks.held 0 (omega arith))
      (sym a.low_is ∙ l ∙ b.low_is) in
      let high = place_one (cofactor a.flag 1 u) (cofactor b.flag 1 w) rules (a.asks.held 1 (omega arith)) (b.asks.held 1 (omega arith))
      (sym a.high_is ∙ h ∙ b.high_is) in
      let same : u ≡ w =
      sym (mix_cofactors n a.flag u a.asks.rows) ∙ rw (low, high, q) (mix_cofactors n b.flag w b.asks.rows) in
      omega (arith, number j hj, number k hk, ap (λ (t : List ℕ). place t rules) same)

  pub numbered_sound : Shaped n order d used
  numbered_sound =
      record {
        fits = x.fits;
        flag = λ k h. let a = x.holds k h in rw a.flag_is a.asks.flag;
        differ = λ k h e.
            let a = x.holds k h in
            depends-true a.flag (get_or rules (k + 2) []) a.asks.asks
            (place_one _ _ rules (a.asks.held 0 (omega arith)) (a.asks.held 1 (omega arith)) (sym a.low_is ∙ e ∙ a.high_is));
        low_smaller = λ k h. let a = x.holds k h in rw a.low_is (branch_smaller k 0 h a (omega arith));
        high_smaller = λ k h. let a = x.holds k h in rw a.high_is (branch_smaller k 1 h a (omega arith));
        low_later = λ k h. let a = x.holds k h in branch_later k 0 (low_at d k) h (omega arith) a a.low_is;
        high_later = λ k h. let a = x.holds k h in branch_later k 1 (high_at d k) h (omega arith) a a.high_is;
        once = record_once;
        clear = x.clear;
      }

  -- a node's table is the rule with its number
  pub numbered_table : (m : ℕ) → m ≤ used + 1 → table_of n d m ≡ get_or rules m []
  numbered_table =
      nodes (smaller numbered_sound) (λ (m : ℕ). table_of n d m ≡ get_or rules m [])
      end
      (λ k h low high.
      let a = x.holds k h in
      let u = get_or rules (k + 2) [] in
      table_mix numbered_sound o k h
      ∙ rw (low, high, a.flag_is, a.low_is, a.high_is, place_is (cofactor a.flag 0 u) rules (a.asks.held 0 (omega arith)), place_is (cofactor a.flag 1 u) rules (a.asks.held 1 (omega arith)))
      (mix_cofactors n a.flag u a.asks.rows))
    where
      constant : (m : ℕ) → m < 2 → table_of n d m ≡ replicate (2 ^ n) m
      constant m h =
          rows_eq n (table_of n d m) (replicate (2 ^ n) m) (length_table n d m) (length-replicate (2 ^ n) m)
          (λ r l. table_row n d m r l ∙ walk_end d m r h ∙ sym (get_or-replicate (2 ^ n) r m 0 l))

      end : (m : ℕ) → m < 2 → table_of n d m ≡ get_or rules m []
      end zero h = constant 0 h ∙ sym x.no_is
      end (suc zero) h = constant 1 h ∙ sym x.yes_is
      end (suc (suc m)) h = absurd (omega arith)
