-- The stretches of the workspace: they do not overlap, all lie within 3^n cells, and writing one keeps the others.
-- Assumes nothing.
use mathlib.Core.Path.{◌≡◌, refl, sym, ap, ◌∙◌}
use mathlib.Core.Logic.{◌≢◌, ◌⊎◌, inl, inr}
use mathlib.Core.List.{List, ◌++◌}
use Prim.Native.Nat.{ℕ, zero, suc, ◌+◌, ◌-◌, ◌^◌, ◌≤◌, ◌<◌}
use native.Mathlib.Decide.{dec_lt}
use native.Mathlib.Nat.{add-sub_cancel_left}
use native.Mathlib.Omega.{arith}
use lib.ListN.{length, take, drop}
use lib.Pow.{pow_mono}
use Rattle.rule.specs.Sets.{set_size, stretch, stretch_at}
use Rattle.stretches.proofs.Fill.{stretches_fill}
use Rattle.stretches.specs.Stretch.{stretch_of, PartOf}
use Rattle.stretches.proofs.Parts.{part, part_length, over, over_length, own_part, other_part}

-- ---- where they stand

pub next : (n S : ℕ) → stretch_at n (suc S) ≡ stretch_at n S + stretch n S
unfolding stretch_at
next n S = refl

mono : (n S k : ℕ) → stretch_at n S ≤ stretch_at n (S + k)
mono n S zero = let e : S + 0 ≡ S = omega arith in omega (arith, ap (stretch_at n) e)
mono n S (suc k) = let e : S + suc k ≡ suc (S + k) = omega arith in omega (arith, ap (stretch_at n) e, next n (S + k), mono n S k)

-- a stretch ends before those of the sets with larger numbers
pub before : (n S T : ℕ) → S < T → stretch_at n S + stretch n S ≤ stretch_at n T
before n S T h =
    let e : suc S + (T - suc S) ≡ T = omega arith in
    omega (arith, next n S, mono n (suc S) (T - suc S), ap (stretch_at n) e)

pub fits : (n S : ℕ) → n ≤ 10 → S < 2 ^ n → stretch_at n S + stretch n S ≤ 3 ^ n
fits n S h k = omega (arith, before n S (2 ^ n) k, stretches_fill n (omega arith))

-- ---- stretches as parts

stretch-part : (n S : ℕ) (w : List ℕ) → part w (stretch_at n S) (stretch n S) ≡ stretch_of n w S
unfolding part stretch_of
stretch-part n S w = refl

pub stretch-length : (n S : ℕ) (w : List ℕ) → n ≤ 10 → S < 2 ^ n → 3 ^ n ≤ length w → length (stretch_of n w S) ≡ stretch n S
stretch-length n S w few h l =
    sym (ap length (stretch-part n S w)) ∙ part_length w (stretch_at n S) (stretch n S) (omega (arith, fits n S few h))

-- the lent part is the stretch
pub part_is : {n S start end : ℕ} (w : List ℕ) → PartOf n S start end → take (end - start) (drop start w) ≡ stretch_of n w S
unfolding stretch_of
part_is w p = rw (p.start_is, p.end_is, add-sub_cancel_left)

-- and has at most 1024 cells
pub part_most : {n S start end : ℕ} → n ≤ 10 → PartOf n S start end → end - start ≤ 1024
part_most {n} {S} few p = omega (arith, p.start_is, p.end_is, pow_mono {i = n - set_size S} {j = 10} (omega arith))

-- ---- a stretch written

module _ {n S start end : ℕ} (w : List ℕ) (few : n ≤ 10) (h : S < 2 ^ n) (l : 3 ^ n ≤ length w) (b : PartOf n S start end) where
  abbrev written : List ℕ → List ℕ
  written ys = take start w ++ (ys ++ drop (end - start) (drop start w))

  module _ (ys : List ℕ) (k : length ys ≡ stretch n S) where
    written_is : written ys ≡ over w ys (stretch_at n S) (stretch n S) (omega (arith, fits n S few h)) k
    written_is = rw (b.start_is, b.end_is, add-sub_cancel_left)

    pub written_length : length (written ys) ≡ length w
    written_length = ap length written_is ∙ over_length w ys (stretch_at n S) (stretch n S) (omega (arith, fits n S few h)) k

    pub written_own : stretch_of n (written ys) S ≡ ys
    written_own =
        ap (λ (x : List ℕ). stretch_of n x S) written_is
        ∙ sym (stretch-part n S _)
        ∙ own_part w ys (stretch_at n S) (stretch n S) (omega (arith, fits n S few h)) k

    pub written_other : (T : ℕ) → T < 2 ^ n → T ≢ S → stretch_of n (written ys) T ≡ stretch_of n w T
    written_other T g d =
        ap (λ (x : List ℕ). stretch_of n x T) written_is
        ∙ sym (stretch-part n T _)
        ∙ other_part w ys (stretch_at n S) (stretch n S) (omega (arith, fits n S few h)) k (stretch_at n T) (stretch n T) (omega (arith, fits n T few g)) (apart (dec_lt T S))
        ∙ stretch-part n T w
      where
        apart : Dec (T < S) → (stretch_at n T + stretch n T ≤ stretch_at n S) ⊎ (stretch_at n S + stretch n S ≤ stretch_at n T)
        apart (yes x) = inl (before n T S x)
        apart (no x) = inr (before n S T (omega arith))
