-- One record more, that is new and fits the order, leaves sound cells sound.
-- Assumes nothing.
use mathlib.Core.Path.{◌≡◌, sym, ap, subst, ◌∙◌}
use mathlib.Core.Logic.{⊎_elim}
use mathlib.Core.List.{List}
use Prim.Native.Nat.{ℕ, ◌+◌, ◌≤◌, ◌<◌}
use native.Mathlib.Nat.{eq-or-lt_of_le}
use native.Mathlib.Omega.{arith}
use Rattle.rule.specs.Order.{flags, level}
use Rattle.rule.specs.Cells.{flag_at, low_at, high_at, record_of}
use Rattle.cells.proofs.Added.{Added}
use Rattle.theory.specs.Level.{level_of}
use Rattle.theory.specs.Shape.{Shaped}
use Rattle.theory.proofs.Walks.{flag_kept, low_kept, high_kept}
use Rattle.theory.proofs.Canonical.{level_record}
use Rattle.record_index.specs.Find.{None as NoRecord}

-- a record that the order and the older records allow
pub record Allowed (n : ℕ) (order c : List ℕ) (used v low high : ℕ) : Type 0 where
  pub flag : v < n
  pub differ : low ≡ high → ⊥
  pub low_old : low ≤ used + 1
  pub high_old : high ≤ used + 1
  pub low_later : level (flags n order) v < level_of n order c low
  pub high_later : level (flags n order) v < level_of n order c high
  pub new : NoRecord c used v low high

-- what holds of an older record and of the new one holds of each
each_record : {used : ℕ} (P : ℕ → Type 0) → ((k : ℕ) → k < used → P k) → P used → (k : ℕ) → k < used + 1 → P k
each_record {used} P f g k h = ⊎_elim (λ (e : k ≡ used). subst P (sym e) g) (λ (l : k < used). f k l) (eq-or-lt_of_le (omega arith))

-- the level of a node that is a record
level_of_lem : (n : ℕ) (order c : List ℕ) (m : ℕ) → 2 ≤ m → level_of n order c m ≡ level (flags n order) (flag_at c (record_of m))
level_of_lem n order c m h = let e : m ≡ record_of m + 2 = omega arith in ap (level_of n order c) e ∙ level_record n order c (record_of m)

module _ {n used v low high : ℕ} {order c d : List ℕ} (s : Shaped n order c used) (p : Allowed n order c used v low high) (x : Added c used v low high d) where
  old_flag : (k : ℕ) → k < used → flag_at d k ≡ flag_at c k
  old_flag k h = flag_kept d c used x.agree k h

  old_low : (k : ℕ) → k < used → low_at d k ≡ low_at c k
  old_low k h = low_kept d c used x.agree k h

  old_high : (k : ℕ) → k < used → high_at d k ≡ high_at c k
  old_high k h = high_kept d c used x.agree k h

  -- an older node that is a record stands at its old level
  old_level : (m : ℕ) → m ≤ used + 1 → 2 ≤ m → level (flags n order) (flag_at d (record_of m)) ≡ level_of n order c m
  old_level m h k = ap (level (flags n order)) (old_flag (record_of m) (omega arith)) ∙ sym (level_of_lem n order c m k)

  -- the new record is none of the older ones
  apart : (j : ℕ) → j < used → flag_at d j ≡ v → low_at d j ≡ low → high_at d j ≡ high → ⊥
  apart j h a b e =
      p.new j h (record { flag_is = sym (old_flag j h) ∙ a; low_is = sym (old_low j h) ∙ b; high_is = sym (old_high j h) ∙ e })

  later : (child : ℕ → ℕ) → ((k : ℕ) → k < used → child k ≤ used + 1) → child used ≤ used + 1
      → ((k : ℕ) → k < used → 2 ≤ child k → level (flags n order) (flag_at c k) < level_of n order c (child k)) → level (flags n order) v < level_of n order c (child used)
      → (k : ℕ) → k < used + 1 → 2 ≤ child k → level (flags n order) (flag_at d k) < level (flags n order) (flag_at d (record_of (child k)))
  later child small last f g =
      each_record (λ (k : ℕ). 2 ≤ child k → level (flags n order) (flag_at d k) < level (flags n order) (flag_at d (record_of (child k))))
      (λ k h t. rw (old_flag k h, old_level (child k) (small k h) t) (f k h t))
      (λ t. rw (x.flag_is, old_level (child used) last t) g)

  once : (j k : ℕ) → j < used + 1 → k < used + 1 → flag_at d j ≡ flag_at d k → low_at d j ≡ low_at d k → high_at d j ≡ high_at d k → j ≡ k
  once j k hj hk a b e =
      ⊎_elim
      (λ (i : j ≡ used).
      ⊎_elim (λ (q : k ≡ used). i ∙ sym q)
      (λ (q : k < used). absurd (apart k q (sym (a' i) ∙ x.flag_is) (sym (b' i) ∙ x.low_is) (sym (e' i) ∙ x.high_is)))
      (eq-or-lt_of_le (omega arith)))
      (λ (i : j < used).
      ⊎_elim
      (λ (q : k ≡ used).
      absurd (apart j i (a ∙ ap (flag_at d) q ∙ x.flag_is) (b ∙ ap (low_at d) q ∙ x.low_is) (e ∙ ap (high_at d) q ∙ x.high_is)))
      (λ (q : k < used).
      s.once j k i q (sym (old_flag j i) ∙ a ∙ old_flag k q) (sym (old_low j i) ∙ b ∙ old_low k q) (sym (old_high j i) ∙ e ∙ old_high k q))
      (eq-or-lt_of_le (omega arith)))
      (eq-or-lt_of_le (omega arith))
    where
      a' : j ≡ used → flag_at d used ≡ flag_at d k
      a' i = ap (flag_at d) (sym i) ∙ a

      b' : j ≡ used → low_at d used ≡ low_at d k
      b' i = ap (low_at d) (sym i) ∙ b

      e' : j ≡ used → high_at d used ≡ high_at d k
      e' i = ap (high_at d) (sym i) ∙ e

  pub extended : Shaped n order d (used + 1)
  extended =
      record {
        fits = x.fits;
        flag = each_record (λ (k : ℕ). flag_at d k < n) (λ k h. rw (old_flag k h) (s.flag k h)) (rw x.flag_is p.flag);
        differ = each_record (λ (k : ℕ). low_at d k ≡ high_at d k → ⊥) (λ k h. rw (old_low k h, old_high k h) (s.differ k h))
            (rw (x.low_is, x.high_is) p.differ);
        low_smaller = low_small;
        high_smaller = high_small;
        low_later = later (low_at d) (λ k h. omega (arith, low_small k (omega arith))) (omega (arith, x.low_is, p.low_old))
            (λ k h t. rw (level_of_lem n order c (low_at d k) t, old_low k h) (s.low_later k h (rw (old_low k h) at t)))
            (rw x.low_is p.low_later);
        high_later = later (high_at d) (λ k h. omega (arith, high_small k (omega arith))) (omega (arith, x.high_is, p.high_old))
            (λ k h t. rw (level_of_lem n order c (high_at d k) t, old_high k h) (s.high_later k h (rw (old_high k h) at t)))
            (rw x.high_is p.high_later);
        once = once;
        clear = x.clear;
      }
    where
      low_small : (k : ℕ) → k < used + 1 → low_at d k < k + 2
      low_small =
          each_record (λ (k : ℕ). low_at d k < k + 2) (λ k h. rw (old_low k h) (s.low_smaller k h)) (omega (arith, x.low_is, p.low_old))

      high_small : (k : ℕ) → k < used + 1 → high_at d k < k + 2
      high_small =
          each_record (λ (k : ℕ). high_at d k < k + 2) (λ k h. rw (old_high k h) (s.high_smaller k h)) (omega (arith, x.high_is, p.high_old))
