-- Laws of bits, of a number with one bit set, and of the rising lists.
-- Assumes nothing.
use mathlib.Core.Path.{◌≡◌, refl, sym, ap, ◌∙◌}
use mathlib.Core.Logic.{◌≢◌, inl, inr}
use mathlib.Core.List.{List, [], ◌∷◌, ◌++◌, map, map-append}
use Prim.Native.Nat.{ℕ, zero, suc, ◌+◌, ◌*◌, ◌/◌, ◌%◌, ◌^◌, ◌≤◌, ◌<◌, suc-le-suc}
use native.Mathlib.Nat.{add-zero, zero-add, le_of_suc-le-suc, not-suc-le-zero, eq-or-lt_of_le, div-one, div-div-eq-div-mul, pow-succ'}
use native.Mathlib.Numerals.{add-one}
use native.Mathlib.Decide.{ℕ_discrete}
use native.Mathlib.Omega.{arith}
use lib.ListN.{length, get_or, length-map}
use Rattle.std.specs.List.{range_with_len}
use Rattle.rule.specs.Bits.{bit, set_bit, from, below}
use Rattle.theory.proofs.Member.{In, head, tail, not-nil, cases_cons}

-- ---- the rising lists

pub length_from : (a k : ℕ) → length (from a k) ≡ k
unfolding from
length_from a zero = refl
length_from a (suc k) = ap suc (length_from (suc a) k)

-- the library's word
pub range_is : (a k : ℕ) → range_with_len a k ≡ from a k
unfolding from
range_is a zero = refl
range_is a (suc k) = rw (range_is (a + 1) k, add-one)

-- its members are the numbers from a to below a + k
pub from_in : (a k i : ℕ) → In i (from a k) → (a ≤ i) × (i < a + k)
unfolding from
from_in a zero i m = absurd (not-nil m)
from_in a (suc k) i m = elim (cases_cons m) [ inl e ↦ omega arith | inr h ↦ omega (arith, from_in (suc a) k i h) ]

pub in_from : (a k i : ℕ) → a ≤ i → i < a + k → In i (from a k)
unfolding from
in_from a zero i l h = absurd (omega arith)
in_from a (suc k) i l h = elim (eq-or-lt_of_le l) [ inl e ↦ head (sym e) | inr m ↦ tail (in_from (suc a) k i m (omega arith)) ]

pub below_in : {n i : ℕ} → In i (below n) → i < n
below_in {n} {i} m = omega (arith, from_in 0 n i m)

pub in_below : {n i : ℕ} → i < n → In i (below n)
in_below {n} {i} h = in_from 0 n i (omega arith) (omega arith)

map-from : {A : Type 0} (f : ℕ → A) (a n k : ℕ) (d : A) → k < n → get_or (map f (from a n)) k d ≡ f (a + k)
unfolding from
map-from f a zero k d h = absurd (not-suc-le-zero h)
map-from f a (suc n) zero d h = ap f (sym (add-zero a))
map-from f a (suc n) (suc k) d h = map-from f (suc a) n k d (le_of_suc-le-suc h) ∙ ap f (omega arith)

-- the entry at k of a list that is made by its index
pub map_below : {A : Type 0} (f : ℕ → A) (n k : ℕ) (d : A) → k < n → get_or (map f (below n)) k d ≡ f k
map_below f n k d h = map-from f 0 n k d h ∙ ap f (zero-add k)

-- numbers and those behind them
pub from-append : (a k m : ℕ) → from a (k + m) ≡ from a k ++ from (a + k) m
unfolding from
from-append a zero m = let e : 0 + m ≡ m = omega arith in let f : a + 0 ≡ a = omega arith in rw (e, f)
from-append a (suc k) m =
    let e : suc k + m ≡ suc (k + m) = omega arith in
    let f : suc a + k ≡ a + suc k = omega arith in
    rw e (ap (λ (l : List ℕ). a ∷ l) (from-append (suc a) k m ∙ rw f))

-- one more
pub from_next : (a k : ℕ) → from a (k + 1) ≡ from a k ++ ((a + k) ∷ [])
unfolding from
from_next a k = from-append a k 1

pub below_more : {A : Type 0} (f : ℕ → A) (k : ℕ) → map f (below (k + 1)) ≡ map f (below k) ++ (f k ∷ [])
below_more f k = let e : 0 + k ≡ k = omega arith in ap (map f) (from_next 0 k) ∙ map-append f (below k) ((0 + k) ∷ []) ∙ rw e

pub length-below : {A : Type 0} (f : ℕ → A) (k : ℕ) → length (map f (below k)) ≡ k
length-below f k = length-map (below k) f ∙ length_from 0 k

-- ---- bits

pub bit_lt : (r i : ℕ) → bit r i < 2
unfolding bit
bit_lt r zero = omega arith
bit_lt r (suc i) = bit_lt (r / 2) i

pub bit-zero : (i : ℕ) → bit 0 i ≡ 0
unfolding bit
bit-zero zero = refl
bit-zero (suc i) = bit-zero i

-- a number below 2 ^ n has no bit from n on
pub bit_high : (n r i : ℕ) → r < 2 ^ n → n ≤ i → bit r i ≡ 0
unfolding bit
bit_high zero r i h l = let e : r ≡ 0 = omega arith in ap (λ (x : ℕ). bit x i) e ∙ bit-zero i
bit_high (suc n) r zero h l = absurd (not-suc-le-zero l)
bit_high (suc n) r (suc i) h l = bit_high n (r / 2) i (omega arith) (le_of_suc-le-suc l)

-- numbers below 2 ^ n are equal by their bits below n
pub bits_eq : (n r s : ℕ) → r < 2 ^ n → s < 2 ^ n → ((i : ℕ) → i < n → bit r i ≡ bit s i) → r ≡ s
unfolding bit
bits_eq zero r s h k e = omega arith
bits_eq (suc n) r s h k e =
    omega (arith, e 0 (omega arith), bits_eq n (r / 2) (s / 2) (omega arith) (omega arith) (λ i l. e (suc i) (suc-le-suc l)))

lt_pow : (k : ℕ) → k < 2 ^ k
lt_pow zero = omega arith
lt_pow (suc k) = omega (arith, lt_pow k)

-- a number that has no bit from n on is below 2 ^ n
pub bits_below : (n r : ℕ) → ((i : ℕ) → bit r i ≡ 1 → i < n) → r < 2 ^ n
unfolding bit
bits_below zero r f =
    let e : r ≡ 0 = bits_eq r r 0 (lt_pow r) (omega (arith, lt_pow r)) (λ i h. none i (f i) ∙ sym (bit-zero i)) in
    omega arith
  where
    none : (i : ℕ) → (bit r i ≡ 1 → i < 0) → bit r i ≡ 0
    none i g = elim (ℕ_discrete (bit r i) 1) [ yes e ↦ absurd (not-suc-le-zero (g e)) | no d ↦ omega (arith, d, bit_lt r i) ]
bits_below (suc n) r f = omega (arith, bits_below n (r / 2) (λ i e. le_of_suc-le-suc (f (suc i) e)))

-- a number whose bits are all in another is no larger
pub bits_le : (n r s : ℕ) → r < 2 ^ n → ((i : ℕ) → i < n → bit r i ≤ bit s i) → r ≤ s
unfolding bit
bits_le zero r s h e = omega arith
bits_le (suc n) r s h e = omega (arith, e 0 (omega arith), bits_le n (r / 2) (s / 2) (omega arith) (λ i l. e (suc i) (suc-le-suc l)))

-- ---- a bit that is set

halve : (x b : ℕ) → b < 2 → (x * 2 + b) / 2 ≡ x
halve x b h = omega arith

-- the bit that is set has the value, and every other is as it was
pub bit-same : (r i b : ℕ) → b < 2 → bit (set_bit r i b) i ≡ b
unfolding bit set_bit
bit-same r zero b h = omega arith
bit-same r (suc i) b h = rw (halve (set_bit (r / 2) i b) (r % 2) (omega arith)) (bit-same (r / 2) i b h)

pub bit_other : (r i j b : ℕ) → b < 2 → i ≢ j → bit (set_bit r i b) j ≡ bit r j
unfolding bit set_bit
bit_other r zero zero b h d = absurd (d refl)
bit_other r zero (suc j) b h d = rw (halve (r / 2) b h)
bit_other r (suc i) zero b h d = omega arith
bit_other r (suc i) (suc j) b h d =
    rw (halve (set_bit (r / 2) i b) (r % 2) (omega arith)) (bit_other (r / 2) i j b h (λ q. d (ap suc q)))

pub set_bit_lt : (n r i b : ℕ) → r < 2 ^ n → i < n → b < 2 → set_bit r i b < 2 ^ n
unfolding set_bit
set_bit_lt zero r i b h k l = absurd (not-suc-le-zero k)
set_bit_lt (suc n) r zero b h k l = omega arith
set_bit_lt (suc n) r (suc i) b h k l = omega (arith, set_bit_lt n (r / 2) i b (omega arith) (le_of_suc-le-suc k) l)

-- two bits are set in either sequence
pub set_bit_comm : (r i j b c : ℕ) → i ≢ j → b < 2 → c < 2 → set_bit (set_bit r i b) j c ≡ set_bit (set_bit r j c) i b
unfolding set_bit
set_bit_comm r zero zero b c d h k = absurd (d refl)
set_bit_comm r zero (suc j) b c d h k = rw (halve (r / 2) b h) (omega arith)
set_bit_comm r (suc i) zero b c d h k = rw (halve (r / 2) c k) (omega arith)
set_bit_comm r (suc i) (suc j) b c d h k =
    rw (halve (set_bit (r / 2) i b) (r % 2) (omega arith), halve (set_bit (r / 2) j c) (r % 2) (omega arith))
    (omega (arith, set_bit_comm (r / 2) i j b c (λ e. d (ap suc e)) h k))

-- a bit that is set twice has the later value
pub set_bit_twice : (r i b c : ℕ) → b < 2 → set_bit (set_bit r i b) i c ≡ set_bit r i c
unfolding set_bit
set_bit_twice r zero b c h = rw (halve (r / 2) b h)
set_bit_twice r (suc i) b c h =
    rw (halve (set_bit (r / 2) i b) (r % 2) (omega arith)) (omega (arith, set_bit_twice (r / 2) i b c h))

-- a bit that is set to its own value
pub set_bit_own : (r i : ℕ) → set_bit r i (bit r i) ≡ r
unfolding bit set_bit
set_bit_own r zero = omega arith
set_bit_own r (suc i) = omega (arith, set_bit_own (r / 2) i)

-- a bit that is cleared
pub clear_le : (r i : ℕ) → set_bit r i 0 ≤ r
unfolding set_bit
clear_le r zero = omega arith
clear_le r (suc i) = omega (arith, clear_le (r / 2) i)

pub clear_lt : (r i : ℕ) → bit r i ≡ 1 → set_bit r i 0 < r
unfolding bit set_bit
clear_lt r zero e = omega arith
clear_lt r (suc i) e = omega (arith, clear_lt (r / 2) i e)

-- ---- shifts and sums, for code

pub bit_shift : (r i : ℕ) → bit r i ≡ r / 2 ^ i % 2
unfolding bit
bit_shift r zero = ap (λ (x : ℕ). x % 2) (sym (div-one r))
bit_shift r (suc i) =
    bit_shift (r / 2) i ∙ ap (λ (x : ℕ). x % 2) (div-div-eq-div-mul r 2 (2 ^ i) ∙ ap (λ (x : ℕ). r / x) (sym (pow-succ' 2 i)))

pub set_up : (r i : ℕ) → bit r i ≡ 0 → set_bit r i 1 ≡ r + 2 ^ i
unfolding bit set_bit
set_up r zero e = omega arith
set_up r (suc i) e = omega (arith, set_up (r / 2) i e)

pub set_down : (r i : ℕ) → bit r i ≡ 1 → set_bit r i 0 + 2 ^ i ≡ r
unfolding bit set_bit
set_down r zero e = omega arith
set_down r (suc i) e = omega (arith, set_down (r / 2) i e)
