-- The flags outside a set: how many there are, and those of a set that one flag has left.
-- Assumes nothing.
use mathlib.Core.Path.{◌≡◌, refl, sym, ap, ap₂, ◌∙◌}
use mathlib.Core.Bool.{Bool, true}
use mathlib.Core.List.{List, [], ◌∷◌, ◌++◌}
use Prim.Native.Nat.{ℕ, zero, suc, ◌+◌, ◌-◌, ◌*◌, ◌/◌, ◌%◌, ◌^◌, ◌≤◌, ◌<◌}
use native.Mathlib.Omega.{arith}
use borrow.Author.Tests.{eq-eqb}
use lib.Count.{ones_in}
use lib.Dec.{eqb}
use lib.ListN.{length, length-append}
use Rattle.rule.specs.Bits.{bit, set_bit, from, below}
use Rattle.rule.specs.Tests.{add_if, keep}
use Rattle.rule.specs.Sets.{set_size, stretch}
use Rattle.theory.proofs.Member.{In, head, tail}
use Rattle.theory.proofs.Bits.{from_in, bit-zero, bit-same, bit_other, clear_le}
use Rattle.theory.proofs.Tests.{keep_append, keep_same}
use Rattle.theory.specs.Sets.{having}
use Rattle.ways.specs.Ways.{place_of}

-- ---- what is kept

keep_all : (p : ℕ → Bool) (xs : List ℕ) → ((x : ℕ) → In x xs → p x ≡ true) → keep p xs ≡ xs
unfolding keep
keep_all p [] f = refl
keep_all p (x ∷ xs) f = rw (f x (head refl)) (ap (λ (l : List ℕ). x ∷ l) (keep_all p xs (λ y m. f y (tail m))))

-- outside the empty set is every flag
pub outside_none : (n : ℕ) → having 0 n 0 ≡ below n
unfolding having
outside_none n = keep_all (λ (v : ℕ). eqb (bit 0 v) 0) (below n) (λ v m. eq-eqb (bit 0 v) 0 (bit-zero v))

-- ---- how many flags a set lacks

-- x has the bits of set from a on
lacking : (set a k x : ℕ) → ((m : ℕ) → bit set (a + m) ≡ bit x m) → length (keep (λ (v : ℕ). eqb (bit set v) 0) (from a k)) + ones_in k x ≡ k
unfolding keep from ones_in bit
lacking set a zero x f = refl
lacking set a (suc k) x f = go (x % 2) (omega arith) own (lacking set (suc a) k (x / 2) next)
  where
    own : bit set a ≡ x % 2
    own = let q : a + 0 ≡ a = omega arith in rw q at (f 0)

    next : (m : ℕ) → bit set (suc a + m) ≡ bit (x / 2) m
    next m = let q : a + suc m ≡ suc a + m = omega arith in rw q at (f (suc m))

    go : (b : ℕ) → b < 2 → bit set a ≡ b → length (keep (λ (v : ℕ). eqb (bit set v) 0) (from (suc a) k)) + ones_in k (x / 2) ≡ k
        → length (add_if (eqb (bit set a) 0) a (keep (λ (v : ℕ). eqb (bit set v) 0) (from (suc a) k))) + (b + ones_in k (x / 2)) ≡ suc k
    go zero h e ih = rw e (omega arith)
    go (suc zero) h e ih = rw e (omega arith)
    go (suc (suc b)) h e ih = absurd (omega arith)

pub length-having : (n set : ℕ) → length (having 0 n set) + ones_in n set ≡ n
unfolding having
length-having n set = lacking set 0 n set (λ m. let e : 0 + m ≡ m = omega arith in ap (bit set) e)

-- digits past the highest of a number
ones_none : (k : ℕ) → ones_in k 0 ≡ 0
unfolding ones_in
ones_none zero = refl
ones_none (suc k) = omega (arith, ones_none k)

ones_high : (n k x : ℕ) → n ≤ k → x < 2 ^ n → ones_in k x ≡ ones_in n x
unfolding ones_in
ones_high zero k x l h = let e : x ≡ 0 = omega arith in ap (ones_in k) e ∙ ones_none k
ones_high (suc n) zero x l h = absurd (omega arith)
ones_high (suc n) (suc k) x l h = ap (λ (y : ℕ). x % 2 + y) (ones_high n k (x / 2) (omega arith) (omega arith))

-- of n flags each is in a set or outside it
pub outside_all : (n set : ℕ) → n ≤ 10 → set < 2 ^ n → length (having 0 n set) + set_size set ≡ n
outside_all n set l h = omega (arith, length-having n set, ones_high n 10 set l h)

pub outside_size : (n set : ℕ) → n ≤ 10 → set < 2 ^ n → length (having 0 n set) ≡ n - set_size set
outside_size n set l h = omega (arith, outside_all n set l h)

-- ---- one flag leaves

from_split : (a v k : ℕ) → from a (v + suc k) ≡ from a v ++ ((a + v) ∷ from (suc (a + v)) k)
unfolding from
from_split a zero k =
    let e : 0 + suc k ≡ suc k = omega arith in
    let f : a + 0 ≡ a = omega arith in
    rw (e, f)
from_split a (suc v) k =
    let e : suc v + suc k ≡ suc (v + suc k) = omega arith in
    let f : a + suc v ≡ suc a + v = omega arith in
    rw (e, f) (ap (λ (l : List ℕ). a ∷ l) (from_split (suc a) v k))

-- the flags outside the set below v, and those above it
abbrev pub above : ℕ → ℕ → ℕ → List ℕ
above n set v = keep (λ (u : ℕ). eqb (bit set u) 0) (from (suc v) (n - suc v))

-- the flags on both sides of v, and v between them where its bit is 0
sides : (n set v : ℕ) → v < n
    → having 0 n set ≡ having 0 v set ++ add_if (eqb (bit set v) 0) v (above n set v)
unfolding having keep
sides n set v h =
    let e : n ≡ v + suc (n - suc v) = omega arith in
    let z : 0 + v ≡ v = omega arith in
    ap (λ (k : ℕ). keep (λ (u : ℕ). eqb (bit set u) 0) (below k)) e
    ∙ ap (keep (λ (u : ℕ). eqb (bit set u) 0)) (from_split 0 v (n - suc v))
    ∙ rw z (keep_append (λ (u : ℕ). eqb (bit set u) 0) (from 0 v) (v ∷ from (suc v) (n - suc v)))

module _ (n set v : ℕ) (h : v < n) (e : bit set v ≡ 1) where
  -- a set with v
  pub outside_with : having 0 n set ≡ having 0 v set ++ above n set v
  outside_with = sides n set v h ∙ rw e

  -- the set that v has left: v stands between the same flags
  pub outside_without : having 0 n (set_bit set v 0) ≡ having 0 v set ++ (v ∷ above n set v)
  outside_without =
      sides n (set_bit set v 0) v h ∙ rw (bit-same set v 0 (omega arith)) (ap₂ (λ (a b : List ℕ). a ++ (v ∷ b)) low high)
    where
      other : (u : ℕ) → (v ≡ u → ⊥) → eqb (bit (set_bit set v 0) u) 0 ≡ eqb (bit set u) 0
      other u d = ap (λ (x : ℕ). eqb x 0) (bit_other set v u 0 (omega arith) d)

      low : having 0 v (set_bit set v 0) ≡ having 0 v set
      low = unfold having in keep_same _ _ (below v) (λ u m. other u (omega (arith, from_in 0 v u m)))

      high : above n (set_bit set v 0) v ≡ above n set v
      high = keep_same _ _ (from (suc v) (n - suc v)) (λ u m. other u (omega (arith, from_in (suc v) (n - suc v) u m)))

-- where v stands among them
pub outside_place : (set v : ℕ) → length (having 0 v set) ≡ place_of set v
unfolding place_of
outside_place set v = omega (arith, length-having v set)

module _ (n set v : ℕ) (few : n ≤ 10) (small : set < 2 ^ n) (h : v < n) (e : bit set v ≡ 1) where
  sides_size : length (having 0 v set) + length (above n set v) ≡ n - set_size set
  sides_size =
      sym (length-append (having 0 v set) (above n set v)) ∙ ap length (sym (outside_with n set v h e)) ∙ outside_size n set few small

  pub place_le : place_of set v ≤ n - set_size set
  place_le = omega (arith, outside_place set v, sides_size)

  -- the set that v has left has twice as many ways
  pub rest_size : n - set_size (set_bit set v 0) ≡ suc (n - set_size set)
  rest_size =
      omega (
        arith,
        outside_size n (set_bit set v 0) few (omega (arith, clear_le set v)),
        ap length (outside_without n set v h e),
        length-append (having 0 v set) (v ∷ above n set v),
        sides_size,
      )

  pub stretch_half : stretch n (set_bit set v 0) ≡ stretch n set * 2
  stretch_half = ap (λ (k : ℕ). 2 ^ k) rest_size ∙ omega arith
