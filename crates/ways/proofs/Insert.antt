-- The numbers of ways: a bit inserted, as a sum and below its bound, and the place of a flag among those outside a set, by a count of ones.
-- Assumes nothing.
use mathlib.Core.Path.{◌≡◌, sym, ap, ap₂, ◌∙◌}
use mathlib.Core.List.{List}
use Prim.Native.Nat.{ℕ, zero, suc, ◌+◌, ◌-◌, ◌*◌, ◌/◌, ◌%◌, ◌^◌, ◌≤◌, ◌<◌}
use native.Mathlib.Nat.{le_of_suc-le-suc, not-suc-le-zero, div-one, mul-one, one-mul, add-mul, mul_assoc, mul-le-mul_right}
use native.Mathlib.Nat.{div-mul-le_self, mod-eq_of_lt, div-div-eq-div-mul, pow-suc, pow-succ'}
use native.Mathlib.Numerals.{add-one}
use native.Mathlib.Omega.{arith}
use lib.Count.{ones, ones_in, ones_step}
use lib.Count as count
use lib.Pow.{pow_mono, split, field, mod-mod-pow}
use lib.ListN.{length}
use Rattle.ways.specs.Ways.{insert_bit, Foldable}

-- ---- a bit inserted

pub insert_is : (i p b : ℕ) → i + (i / 2 ^ p + b) * 2 ^ p ≡ insert_bit i p b
unfolding insert_bit
insert_is i zero b = omega (arith, div-one i, mul-one (i / 1 + b))
insert_is i (suc p) b =
    let halved : i / 2 ^ suc p ≡ i / 2 / 2 ^ p = ap (λ (x : ℕ). i / x) (pow-succ' 2 p) ∙ sym (div-div-eq-div-mul i 2 (2 ^ p)) in
    let doubled : (i / 2 / 2 ^ p + b) * 2 ^ suc p ≡ (i / 2 / 2 ^ p + b) * 2 ^ p * 2 =
    ap (λ (x : ℕ). (i / 2 / 2 ^ p + b) * x) (pow-suc 2 p) ∙ sym (mul_assoc (i / 2 / 2 ^ p + b) (2 ^ p) 2) in
    rw halved (omega (arith, doubled, insert_is (i / 2) p b))

-- what is added fits 16 bits
pub inserted_lt : (i p b : ℕ) → i < 1024 → p < 10 → b < 2 → (i / 2 ^ p + b) * 2 ^ p < 2048
inserted_lt i p b h k l =
    omega (
      arith,
      add-mul (i / 2 ^ p) b (2 ^ p),
      div-mul-le_self i (2 ^ p),
      mul-le-mul_right (2 ^ p) (le_of_suc-le-suc l),
      one-mul (2 ^ p),
      pow_mono {j = 9} (le_of_suc-le-suc k),
    )

pub inserted_fits : (i p b : ℕ) → i < 1024 → p < 10 → b < 2 → ((i / 2 ^ p + b) * 2 ^ p) % 65536 ≡ (i / 2 ^ p + b) * 2 ^ p
inserted_fits i p b h k l = mod-eq_of_lt (omega (arith, inserted_lt i p b h k l))

pub insert_lt : (q i p b : ℕ) → i < 2 ^ q → p ≤ q → b < 2 → insert_bit i p b < 2 ^ suc q
unfolding insert_bit
insert_lt q i zero b h k l = omega arith
insert_lt zero i (suc p) b h k l = absurd (not-suc-le-zero k)
insert_lt (suc q) i (suc p) b h k l = omega (arith, insert_lt q (i / 2) p b (omega arith) (le_of_suc-le-suc k) l)

-- ---- the place of a flag

-- the digits below a flag's, by two shifts
shifted_fits : (x v : ℕ) → x < 65536 → (x / 2 ^ v * 2 ^ v) % 65536 ≡ x / 2 ^ v * 2 ^ v
shifted_fits x v h = mod-eq_of_lt (omega (arith, div-mul-le_self x (2 ^ v)))

pub lower_le : (x v : ℕ) → x < 65536 → (x / 2 ^ v * 2 ^ v) % 65536 ≤ x
lower_le x v h = omega (arith, shifted_fits x v h, div-mul-le_self x (2 ^ v))

lower_is : (x v : ℕ) → x < 65536 → x - (x / 2 ^ v * 2 ^ v) % 65536 ≡ x % 2 ^ v
lower_is x v h = omega (arith, shifted_fits x v h, split x v)

pub ones_le : (d x : ℕ) → ones_in d x ≤ d
unfolding ones_in
ones_le zero x = omega arith
ones_le (suc d) x = omega (arith, ones_le d (x / 2))

pub ones_small : (x : ℕ) → x < 65536 → ones x < 65536
ones_small x h = omega (arith, count.ones-le 16 x h)

-- the ones of a number's lowest digits
ones_low : (d x : ℕ) → ones (x % 2 ^ d) ≡ ones_in d x
unfolding ones ones_in
ones_low zero x = let e : x % 1 ≡ 0 = omega arith in ap ones e
ones_low (suc d) x =
    ones_step (x % 2 ^ suc d)
    ∙ ap₂ (λ (a b : ℕ). a + ones b)
    (ap (λ (k : ℕ). x % 2 ^ k % 2) (sym (add-one d)) ∙ mod-mod-pow x d 1)
    (ap (λ (k : ℕ). x % 2 ^ k / 2) (sym (add-one d)) ∙ field x d 1)
    ∙ ap (λ (y : ℕ). x % 2 + y) (ones_low d (x / 2))

-- so the flags of a set below v are counted
pub lower_ones : (x v : ℕ) → x < 65536 → ones (x - (x / 2 ^ v * 2 ^ v) % 65536) ≡ ones_in v x
lower_ones x v h = ap ones (lower_is x v h) ∙ ones_low v x

-- ---- the ways of a stretch that is folded

module _ {s : List ℕ} {p : ℕ} (f : Foldable s p) where
  pub place_few : p < 10
  place_few = omega (arith, f.place, f.few)

  pub way_few : (i : ℕ) → i * 2 < length s → i < 512
  way_few i h = omega (arith, f.ways, pow_mono {j = 9} f.few)

  pub way_in : (i b : ℕ) → i * 2 < length s → b < 2 → insert_bit i p b < length s
  way_in i b h l = omega (arith, f.ways, insert_lt f.flags i p b (omega (arith, f.ways)) f.place l)
