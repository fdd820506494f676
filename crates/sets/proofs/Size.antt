-- The size of a set: the logic's own count of ones takes as many steps as the number, the ten-bit one ten; a subset has no more flags.
-- Assumes nothing.
use mathlib.Core.Path.{◌≡◌, refl, ap, ◌∙◌}
use Prim.Native.Nat.{ℕ, zero, suc, ◌+◌, ◌/◌, ◌%◌, ◌^◌, ◌*◌, ◌≤◌, ◌<◌, zero-le}
use native.Mathlib.Nat.{pow-suc}
use native.Mathlib.Omega.{arith}
use lib.Bits.{bit_and, and_step}
use lib.Count.{ones, ones_in, ones_step, ones-le}
use lib.Pow.{pow_mono}

pub ones_counted : (d x : ℕ) → x < 2 ^ d → ones x ≡ ones_in d x
unfolding ones ones_in
ones_counted zero zero h = refl
ones_counted zero (suc x) h = let z : ⊥ = omega arith in absurd z
ones_counted (suc d) x h =
    let p : 2 ^ suc d ≡ 2 ^ d * 2 = pow-suc 2 d in
    let q : x / 2 < 2 ^ d = omega arith in
    ones_step x ∙ ap (λ (n : ℕ). x % 2 + n) (ones_counted d (x / 2) q)

halves : (a b : ℕ) → bit_and a b ≡ a → bit_and (a / 2) (b / 2) ≡ a / 2
halves a b e = omega (arith, and_step a b)

lowest : (a b : ℕ) → bit_and a b ≡ a → a % 2 ≤ b % 2
lowest a b e = omega (arith, and_step a b)

-- a set within another has no more flags
pub within : (d a b : ℕ) → bit_and a b ≡ a → ones_in d a ≤ ones_in d b
unfolding ones_in
within zero a b e = zero-le
within (suc d) a b e = omega (arith, lowest a b e, within d (a / 2) (b / 2) (halves a b e))

-- and as many only where the two are one
pub whole : (d a b : ℕ) → a < 2 ^ d → b < 2 ^ d → bit_and a b ≡ a → ones_in d a ≡ ones_in d b → a ≡ b
unfolding ones_in
whole zero a b h g e c = omega arith
whole (suc d) a b h g e c =
    let p : 2 ^ suc d ≡ 2 ^ d * 2 = pow-suc 2 d in
    let low = lowest a b e in
    let high = within d (a / 2) (b / 2) (halves a b e) in
    let same : ones_in d (a / 2) ≡ ones_in d (b / 2) = omega arith in
    let top : a / 2 ≡ b / 2 = whole d (a / 2) (b / 2) (omega arith) (omega arith) (halves a b e) same in
    omega arith

-- a set of flags below n has at most n
pub size_most : (n x : ℕ) → n ≤ 10 → x < 2 ^ n → ones_in 10 x ≤ n
size_most n x few h = omega (arith, ones-le n x h, ones_counted 10 x (omega (arith, pow_mono {i = n} {j = 10} few)))
