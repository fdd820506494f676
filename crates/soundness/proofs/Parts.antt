-- Sound cells, record by record: two records that are equal or not, one that is sound or not, and all of them.
-- Assumes nothing.
use mathlib.Core.Path.{◌≡◌, refl, sym, ap, ◌∙◌}
use mathlib.Core.Bool.{Bool, true, false, not, ◌&&◌}
use mathlib.Core.List.{List, [], ◌∷◌}
use Prim.Native.Nat.{ℕ, ◌+◌, ◌≤◌, ◌<◌}
use native.Mathlib.Omega.{arith}
use borrow.Author.Count.{below_more}
use borrow.Author.Tests.{eqb-true, eq-eqb, ne_eqb, ltb-true, not-true, not-false}
use lib.Dec.{eqb, leb, ltb}
use Rattle.rule.specs.Bits.{below}
use Rattle.rule.specs.Tests.{each}
use Rattle.rule.specs.Order.{flags}
use Rattle.rule.specs.Cells.{room, flag_at, low_at, high_at}
use Rattle.rule.specs.Sound.{flags_below, children_differ, children_smaller, children_later, same_record, none_equal, rest_clear, laid, sound, shaped}
use Rattle.theory.proofs.Tests.{and_split, below_each}
use Rattle.theory.proofs.Scan.{fails_below}
use Rattle.std.specs.Prelude.{Option, Some, None, is_none}
use Rattle.record_index.specs.Find.{Finds}
use Rattle.soundness.specs.Record.{is_new, fit_record}

fails : (b : Bool) → (b ≡ true → ⊥) → b ≡ false
fails true d = absurd (d refl)
fails false d = refl

-- ---- two records

module _ (c : List ℕ) (j k : ℕ) where
  same_record_lem : flag_at c j ≡ flag_at c k → low_at c j ≡ low_at c k → high_at c j ≡ high_at c k → same_record c j k ≡ true
  unfolding same_record
  same_record_lem e f g = rw (eq-eqb _ _ e, eq-eqb _ _ f, eq-eqb _ _ g)

  other_record : (flag_at c j ≡ flag_at c k → low_at c j ≡ low_at c k → high_at c j ≡ high_at c k → ⊥) → same_record c j k ≡ false
  unfolding same_record
  other_record d =
      fails (same_record c j k)
      (λ e.
      let f = and_split (eqb (flag_at c j) (flag_at c k)) _ e in
      let g = and_split (eqb (low_at c j) (low_at c k)) _ f.1 in
      d (eqb-true _ _ f.0) (eqb-true _ _ g.0) (eqb-true _ _ g.1))

-- ---- a record that is new

-- the record is new where a search for it among those before it finds none
pub found_new : (c : List ℕ) (k : ℕ) {flag low high : ℕ} (r : Option ℕ) → flag ≡ flag_at c k → low ≡ low_at c k → high ≡ high_at c k
    → Finds c k flag low high r → is_none r ≡ is_new c k
unfolding is_new
found_new c k None flag_is low_is high_is found =
    sym (below_each _ k (λ i h.
    ap not (other_record _ _ _ (λ p q s.
    found i h (record { flag_is = p ∙ sym flag_is; low_is = q ∙ sym low_is; high_is = s ∙ sym high_is })))))
found_new c k (Some j) flag_is low_is high_is found =
    let is = found.1 in
    sym (fails_below _ k j found.0
    (ap not (same_record_lem _ _ _ (is.flag_is ∙ flag_is) (is.low_is ∙ low_is) (is.high_is ∙ high_is))))

-- ---- all records

fit_flag : (n : ℕ) (order c : List ℕ) (k : ℕ) → fit_record n order c k ≡ true → flag_at c k < n
unfolding fit_record
fit_flag n order c k e = ltb-true (flag_at c k) n (and_split (ltb (flag_at c k) n) _ e).0

-- of the used records those before k are sound
pub record Fitting (n : ℕ) (order c : List ℕ) (used k : ℕ) : Type 0 where
  pub within : k ≤ used
  pub fit : (j : ℕ) → j < k → fit_record n order c j ≡ true

module _ (n : ℕ) (order c : List ℕ) (used : ℕ) where
  pub fitting_none : Fitting n order c used 0
  fitting_none = record { within = omega arith; fit = λ j h. absurd (omega arith) }

  pub fitting_more : (k : ℕ) {a : Bool} → Fitting n order c used k → k < used → a ≡ fit_record n order c k → not a ≡ false
      → Fitting n order c used (k + 1)
  fitting_more k {a} p h e f =
      record { within = omega arith; fit = below_more _ _ p.fit (sym e ∙ not-false a f) }

  pub fitting_flags : (k : ℕ) → Fitting n order c used k → (j : ℕ) → j < k → flag_at c j < n
  fitting_flags k p j h = fit_flag n order c j (p.fit j h)

  pub fitting_not : (k : ℕ) {a : Bool} → k < used → a ≡ fit_record n order c k → not a ≡ true → false ≡ each (fit_record n order c) (below used)
  fitting_not k {a} h e f = sym (fails_below _ used k h (sym e ∙ not-true a f))

  pub fitting_all : (k : ℕ) → Fitting n order c used k → used ≤ k → true ≡ each (fit_record n order c) (below used)
  fitting_all k p h = sym (below_each _ used (λ j g. p.fit j (omega arith)))

and_swap : (a b x y : Bool) → ((a && b) && (x && y)) ≡ ((a && x) && (b && y))
and_swap false b x y = refl
and_swap true true x y = refl
and_swap true false true y = refl
and_swap true false false y = refl

-- two tests of each member at once are the two, one after the other
each_and : {A : Type 0} (p q : A → Bool) (l : List A) → each (λ k. p k && q k) l ≡ (each p l && each q l)
unfolding each
each_and p q [] = refl
each_and p q (x ∷ l) = ap (λ b. (p x && q x) && b) (each_and p q l) ∙ and_swap (p x) (q x) (each p l) (each q l)

module _ (n : ℕ) (order c : List ℕ) (used : ℕ) where
  -- the five parts that speak of each used record
  all_parts : each (fit_record n order c) (below used)
      ≡ (flags_below n c used && (children_differ c used && (children_smaller c used && (children_later order c used && none_equal c used))))
  unfolding fit_record is_new flags_below children_differ children_smaller children_later none_equal
  all_parts = simp each_and

and_behind : (a b x : Bool) → ((a && b) && x) ≡ (a && (x && b))
and_behind false b x = refl
and_behind true true true = refl
and_behind true true false = refl
and_behind true false true = refl
and_behind true false false = refl

-- "sound" by one test of each used record
module _ (n : ℕ) (order c : List ℕ) (used : ℕ) where
  pub sound_by : sound n order c used ≡ (leb used (room c) && (each (fit_record n (flags n order) c) (below used) && rest_clear c used))
  unfolding sound shaped laid
  sound_by = rw all_parts (and_behind (leb used (room c)) (rest_clear c used) _)
