-- A walk on its way: the child that a record leads to, the flags asked so far, and a step.
-- Assumes nothing.
use mathlib.Core.Path.{◌≡◌, refl, sym, ap, ◌∙◌}
use mathlib.Core.List.{List, [], ◌∷◌, ◌++◌, append-nil}
use Prim.Native.Nat.{ℕ, ◌+◌, ◌-◌, ◌≤◌, ◌<◌}
use native.Mathlib.Omega.{arith}
use lib.ListN.{length, length-append}
use lib.Seq.{append_snoc}
use Rattle.rule.specs.Bits.{bit, set_bit}
use Rattle.rule.specs.Sets.{flag_set}
use Rattle.rule.specs.Cells.{flag_at}
use Rattle.rule.specs.Walk.{step, walk, flags_asked}
use Rattle.theory.specs.Child.{child_at}
use Rattle.theory.proofs.Bits.{set_bit_lt}
use Rattle.theory.proofs.FlagSet.{set_snoc}
use Rattle.theory.proofs.Walks.{step-child, step_is, walk_end, walk_record}
use Rattle.theory.proofs.Asked.{asked_end, asked_record, asked_few}
use Rattle.walking.specs.Walk.{Walkable}

-- a walk from `node` has come to node m
pub record Underway (c : List ℕ) (node row m asked count : ℕ) : Type 0 where
  -- the flags asked so far, and with those still to come all of them
  pub before : List ℕ
  pub all : before ++ flags_asked c m row ≡ flags_asked c node row
  pub set : asked ≡ flag_set before
  pub ten : asked < 1024
  pub number : count ≡ length before
  pub leads : walk c m row ≡ walk c node row

pub starts : (c : List ℕ) (node row : ℕ) {asked count : ℕ} → asked ≡ 0 → count ≡ 0 → Underway c node row node asked count
starts c node row e f = record { before = []; all = refl; set = unfold flag_set in e; ten = omega (arith, e); number = f; leads = refl }

-- at an end node all flags are asked
pub ends : {c : List ℕ} {node row m asked count : ℕ} → Underway c node row m asked count → m < 2
    → (m ≡ walk c node row) × (asked ≡ flag_set (flags_asked c node row)) × (count ≡ length (flags_asked c node row))
ends {c} {node} {row} {m} u h =
    let whole : u.before ≡ flags_asked c node row = sym (append-nil u.before) ∙ ap (λ (vs : List ℕ). u.before ++ vs) (sym (asked_end c m row h)) ∙ u.all in
    (sym (walk_end c m row h) ∙ u.leads, u.set ∙ ap flag_set whole, u.number ∙ ap length whole)

-- a step from the record of node m, by the flag that it asks, to the node that the row leads to
pub record Steps (c : List ℕ) (used node row m flag next : ℕ) : Type 0 where
  pub among : Walkable c used node
  pub two : 2 ≤ m
  pub le : m ≤ used + 1
  pub reads : flag ≡ flag_at c (m - 2)
  pub comes : next ≡ step c (m - 2) row

-- the child for the flag's value
pub child_steps : {c : List ℕ} {used node row m flag value next : ℕ} → Walkable c used node → 2 ≤ m → m ≤ used + 1 → flag ≡ flag_at c (m - 2)
    → value ≡ bit row flag → next ≡ child_at c (m - 2) value → Steps c used node row m flag next
child_steps {c} {row = row} {m = m} w two le reads has comes =
    record {
      among = w;
      two = two;
      le = le;
      reads = reads;
      comes = comes ∙ ap (child_at c (m - 2)) (has ∙ ap (bit row) reads) ∙ sym (step-child c (m - 2) row);
    }

module _ {c : List ℕ} {used node row m flag next : ℕ} (s : Steps c used node row m flag next) where
  is_record : m - 2 < used
  is_record = omega (arith, s.two, s.le)

  again : m - 2 + 2 ≡ m
  again = omega (arith, s.two)

  pub next_smaller : next < m
  next_smaller =
      let w = s.among.smaller in
      omega (
        arith,
        s.comes,
        step_is c (m - 2) row (λ (x : ℕ). x < m) (omega (arith, again, w.low (m - 2) is_record)) (omega (arith, again, w.high (m - 2) is_record)),
      )

  rest : flag ∷ flags_asked c next row ≡ flags_asked c m row
  rest =
      rw (s.reads, s.comes) (sym (asked_record s.among.smaller (m - 2) row is_record)) ∙ ap (λ (x : ℕ). flags_asked c x row) again

  -- so far fewer flags are asked than the node's number
  pub count_lt : {asked count : ℕ} → Underway c node row m asked count → count < node
  count_lt u =
      omega (
        arith,
        u.number,
        ap length u.all,
        length-append u.before (flags_asked c m row),
        ap length rest,
        asked_few s.among.smaller node row s.among.node,
      )

  -- the flag is the next one asked, and the walk goes on from there
  pub goes_on : {asked count more : ℕ} → Underway c node row m asked count → more ≡ set_bit asked flag 1 → Underway c node row next more (count + 1)
  goes_on {asked} u e =
      let flag_lt : flag < 10 = omega (arith, s.reads, s.among.flags (m - 2) is_record) in
      record {
        before = u.before ++ (flag ∷ []);
        all = append_snoc u.before flag (flags_asked c next row) ∙ ap (λ (vs : List ℕ). u.before ++ vs) rest ∙ u.all;
        set = e ∙ ap (λ (x : ℕ). set_bit x flag 1) u.set ∙ sym (set_snoc u.before flag);
        ten = omega (arith, e, set_bit_lt 10 asked flag 1 u.ten flag_lt (omega arith));
        number = omega (arith, u.number, length-append u.before (flag ∷ []));
        leads = ap (λ (x : ℕ). walk c x row) s.comes
            ∙ sym (walk_record s.among.smaller (m - 2) row is_record)
            ∙ ap (λ (x : ℕ). walk c x row) again
            ∙ u.leads;
      }
