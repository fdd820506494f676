-- The shape of cells, part by part: what the test `shaped` says of each used record.
-- Assumes nothing.
use mathlib.Core.Path.{◌≡◌, refl, sym, ap, ◌∙◌}
use mathlib.Core.Logic.{◌⊎◌, inl, inr, ◌↔◌}
use mathlib.Core.Bool.{Bool, true, false, not, ◌&&◌, ◌||◌, false≢true}
use mathlib.Core.List.{List, [], ◌∷◌}
use Prim.Native.Nat.{ℕ, zero, suc, ◌+◌, ◌-◌, ◌*◌, ◌≤◌, ◌<◌}
use native.Mathlib.Omega.{arith}
use native.Mathlib.Decide.{ℕ_discrete, dec_lt}
use borrow.Author.Tests.{ltb-true, ltb-false, lt-ltb, leb-true, le-leb, eqb-true, eq-eqb}
use lib.Dec.{eqb, leb, ltb}
use lib.ListN.{get_or, drop, replicate}
use lib.Seq.{get_or-drop}
use Rattle.rule.specs.Bits.{below}
use Rattle.rule.specs.Tests.{each}
use Rattle.rule.specs.Order.{flags, level}
use Rattle.rule.specs.Cells.{width, room, flag_at, low_at, high_at, record_of}
use Rattle.rule.specs.Sound.{flags_below, children_differ, children_smaller, asks_later, children_later, same_record, none_equal, rest_clear, laid, shaped}
use Rattle.rule.proofs.Zeros.{zero_at}
use Rattle.theory.specs.Shape.{Shaped}
use Rattle.theory.proofs.Tests.{and_split, and_join, each_below, below_each}

-- ---- the parts, by index

-- each number below n passes a test that tests P
each_is : (p : ℕ → Bool) {P : ℕ → Type 0} (n : ℕ) → ((k : ℕ) → (p k ≡ true) ↔ P k) → (each p (below n) ≡ true) ↔ ((k : ℕ) → k < n → P k)
each_is p n t = (λ e k h. (t k).0 (each_below p n e k h), λ f. below_each p n (λ k h. (t k).1 (f k h)))

-- two tests together, one of two, and the tests of an order and of an equation
pub both : (a b : Bool) {P Q : Type 0} → (a ≡ true) ↔ P → (b ≡ true) ↔ Q → ((a && b) ≡ true) ↔ (P × Q)
both a b p q = (λ e. let h = and_split a b e in (p.0 h.0, q.0 h.1), λ h. and_join (p.1 h.0) (q.1 h.1))

pub either : (a b : Bool) {P Q : Type 0} → (a ≡ true) ↔ P → (b ≡ true) ↔ Q → ((a || b) ≡ true) ↔ (P ⊎ Q)
either true b p q = (λ e. inl (p.0 refl), λ h. refl)
either false b p q = (λ e. inr (q.0 e), λ h. elim h [ inl x ↦ absurd (false≢true (p.1 x)) | inr y ↦ q.1 y ])

pub below_is : (a b : ℕ) → (ltb a b ≡ true) ↔ (a < b)
below_is a b = (ltb-true a b, lt-ltb a b)

pub equal_is : (a b : ℕ) → (eqb a b ≡ true) ↔ (a ≡ b)
equal_is a b = (eqb-true a b, eq-eqb a b)

not_is : (b : Bool) {P : Type 0} → (b ≡ true) ↔ P → (not b ≡ true) ↔ (P → ⊥)
not_is true p = (λ e h. let z : ◌≡◌ {A = ℕ} 0 1 = cc in omega arith, λ f. absurd (f (p.0 refl)))
not_is false p = (λ e h. let q = p.1 h in let z : ◌≡◌ {A = ℕ} 0 1 = cc in omega arith, λ f. refl)

-- each flag is below n
pub flags-below : (n : ℕ) (c : List ℕ) (used : ℕ) → (flags_below n c used ≡ true) ↔ ((k : ℕ) → k < used → flag_at c k < n)
unfolding flags_below
flags-below n c used = each_is (λ k. ltb (flag_at c k) n) used (λ k. below_is (flag_at c k) n)

-- low and high differ
pub children_differ_lem : (c : List ℕ) (used : ℕ) → (children_differ c used ≡ true) ↔ ((k : ℕ) → k < used → low_at c k ≡ high_at c k → ⊥)
unfolding children_differ
children_differ_lem c used = each_is (λ k. not (eqb (low_at c k) (high_at c k))) used (λ k. not_is _ (equal_is (low_at c k) (high_at c k)))

-- low and high are smaller than the record's node
pub children_smaller_lem : (c : List ℕ) (used : ℕ)
    → (children_smaller c used ≡ true) ↔ ((k : ℕ) → k < used → (low_at c k < k + 2) × (high_at c k < k + 2))
unfolding children_smaller
children_smaller_lem c used =
    each_is (λ k. ltb (low_at c k) (k + 2) && ltb (high_at c k) (k + 2)) used
    (λ k. both _ _ (below_is (low_at c k) (k + 2)) (below_is (high_at c k) (k + 2)))

-- an end node, or a record that asks a later flag than v
pub asks_later_lem : (o c : List ℕ) (v m : ℕ) → (asks_later o c v m ≡ true) ↔ (2 ≤ m → level o v < level o (flag_at c (record_of m)))
unfolding asks_later
asks_later_lem o c v m = go (ltb m 2) refl
  where
    go : (b : Bool) → ltb m 2 ≡ b
        → ((b || ltb (level o v) (level o (flag_at c (record_of m)))) ≡ true) ↔ (2 ≤ m → level o v < level o (flag_at c (record_of m)))
    go true e = (λ q h. absurd (omega (arith, ltb-true m 2 e)), λ f. refl)
    go false e = (λ q h. ltb-true _ _ q, λ f. lt-ltb _ _ (f (ltb-false m 2 e)))

-- a child that is a record asks a later flag
pub children_later_lem : (o c : List ℕ) (used : ℕ) → (children_later o c used ≡ true)
    ↔ ((k : ℕ) → k < used → (2 ≤ low_at c k → level o (flag_at c k) < level o (flag_at c (record_of (low_at c k))))
    × (2 ≤ high_at c k → level o (flag_at c k) < level o (flag_at c (record_of (high_at c k)))))
unfolding children_later
children_later_lem o c used =
    each_is (λ k. asks_later o c (flag_at c k) (low_at c k) && asks_later o c (flag_at c k) (high_at c k)) used
    (λ k. both _ _ (asks_later_lem o c (flag_at c k) (low_at c k)) (asks_later_lem o c (flag_at c k) (high_at c k)))

-- two records are equal
pub same_record_lem : (c : List ℕ) (j k : ℕ)
    → (same_record c j k ≡ true) ↔ ((flag_at c j ≡ flag_at c k) × ((low_at c j ≡ low_at c k) × (high_at c j ≡ high_at c k)))
unfolding same_record
same_record_lem c j k = both _ _ (equal_is _ _) (both _ _ (equal_is _ _) (equal_is _ _))

-- no record is equal to an earlier one
pub none_equal_lem : (c : List ℕ) (used : ℕ) → (none_equal c used ≡ true)
    ↔ ((k : ℕ) → k < used → (j : ℕ) → j < k → ((flag_at c j ≡ flag_at c k) × ((low_at c j ≡ low_at c k) × (high_at c j ≡ high_at c k))) → ⊥)
unfolding none_equal
none_equal_lem c used =
    each_is (λ k. each (λ j. not (same_record c j k)) (below k)) used
    (λ k. each_is (λ j. not (same_record c j k)) k (λ j. not_is _ (same_record_lem c j k)))

-- each entry of a list is 0
pub all_zero : (l : List ℕ) → (each (eqb 0) l ≡ true) ↔ ((i : ℕ) → get_or l i 0 ≡ 0)
unfolding each
all_zero [] = (λ e i. refl, λ f. refl)
all_zero (x ∷ l) = (
  λ e i. let h = and_split (eqb 0 x) (each (eqb 0) l) e in at h.0 ((all_zero l).0 h.1) i,
  λ f. and_join (eq-eqb 0 x (sym (f 0))) ((all_zero l).1 (λ i. f (suc i))),
)
  where
    at : eqb 0 x ≡ true → ((i : ℕ) → get_or l i 0 ≡ 0) → (i : ℕ) → get_or (x ∷ l) i 0 ≡ 0
    at e f zero = sym (eqb-true 0 x e)
    at e f (suc i) = f i

-- every cell past the used records is 0
pub rest_clear_lem : (c : List ℕ) (used : ℕ) → (rest_clear c used ≡ true) ↔ ((i : ℕ) → used * width ≤ i → get_or c i 0 ≡ 0)
unfolding rest_clear
rest_clear_lem c used = (
  λ e i h.
      let q : used * width + (i - used * width) ≡ i = omega arith in
      ap (λ (x : ℕ). get_or c x 0) (sym q) ∙ sym (get_or-drop (used * width) c (i - used * width) 0) ∙ (all_zero (drop (used * width) c)).0 e (i - used * width),
  λ f. (all_zero (drop (used * width) c)).1 (λ i. get_or-drop (used * width) c i 0 ∙ f (used * width + i) (omega arith)),
)

-- the used records alone stand in the cells
pub laid_view : (c : List ℕ) (used : ℕ) → (laid c used ≡ true) ↔ ((used ≤ room c) × ((i : ℕ) → used * width ≤ i → get_or c i 0 ≡ 0))
unfolding laid
laid_view c used = (
  λ e. let (a, z) = and_split (leb used (room c)) (rest_clear c used) e in (leb-true used (room c) a, (rest_clear_lem c used).0 z),
  λ (a, z). and_join (le-leb used (room c) a) ((rest_clear_lem c used).1 z),
)

-- ---- all parts

module _ (n : ℕ) (order c : List ℕ) (used : ℕ) where
  -- what the test says
  pub shape_view : shaped n order c used ≡ true → Shaped n order c used
  unfolding shaped
  shape_view e =
      let (a, e₁) = and_split (laid c used) _ e in
      let (b, e₂) = and_split (flags_below n c used) _ e₁ in
      let (d, e₃) = and_split (children_differ c used) _ e₂ in
      let (s, e₄) = and_split (children_smaller c used) _ e₃ in
      let (l, o) = and_split (children_later (flags n order) c used) _ e₄ in
      let (fits, clear) = (laid_view c used).0 a in
      let small = (children_smaller_lem c used).0 s in
      let late = (children_later_lem (flags n order) c used).0 l in
      let none = (none_equal_lem c used).0 o in
      record {
        fits = fits;
        flag = (flags-below n c used).0 b;
        differ = (children_differ_lem c used).0 d;
        low_smaller = λ k h. (small k h).0;
        high_smaller = λ k h. (small k h).1;
        low_later = λ k h. (late k h).0;
        high_later = λ k h. (late k h).1;
        once = λ j k hj hk f lo hi. apart j k (λ q. none k hk j q (f, (lo, hi))) (λ q. none j hj k q (sym f, (sym lo, sym hi)));
        clear = clear;
      }
    where
      apart : (j k : ℕ) → (j < k → ⊥) → (k < j → ⊥) → j ≡ k
      apart j k f g = elim (ℕ_discrete j k) [ yes e ↦ e | no d ↦ elim (dec_lt j k) [ yes h ↦ absurd (f h) | no h ↦ absurd (g (omega arith)) ] ]

  -- and what it takes
  pub view_shape : Shaped n order c used → shaped n order c used ≡ true
  unfolding shaped
  view_shape s =
      and_join ((laid_view c used).1 (s.fits, s.clear))
      (and_join ((flags-below n c used).1 s.flag)
      (and_join ((children_differ_lem c used).1 s.differ)
      (and_join ((children_smaller_lem c used).1 (λ k h. (s.low_smaller k h, s.high_smaller k h)))
      (and_join ((children_later_lem (flags n order) c used).1 (λ k h. (s.low_later k h, s.high_later k h)))
      ((none_equal_lem c used).1 (λ k h j l q. let e = s.once j k (omega arith) h q.0 q.1.0 q.1.1 in omega arith))))))

-- cleared cells have the shape, with no record used
pub shape_cleared : (n : ℕ) (order : List ℕ) (k : ℕ) → Shaped n order (replicate k 0) 0
shape_cleared n order k =
    record {
      fits = omega arith;
      flag = λ j h. absurd (omega arith);
      differ = λ j h. absurd (omega arith);
      low_smaller = λ j h. absurd (omega arith);
      high_smaller = λ j h. absurd (omega arith);
      low_later = λ j h. absurd (omega arith);
      high_later = λ j h. absurd (omega arith);
      once = λ i j h. absurd (omega arith);
      clear = λ i h. zero_at k i;
    }
