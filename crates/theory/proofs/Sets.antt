-- Sets of flags as numbers: their members, the flags that a set lacks, and the orders of a set's flags.
-- Assumes nothing.
use mathlib.Core.Path.{◌≡◌, refl, sym, ap, ◌∙◌}
use mathlib.Core.Logic.{◌≢◌, ◌⊎◌, inl, inr}
use mathlib.Core.Bool.{Bool}
use mathlib.Core.List.{List, [], ◌∷◌}
use Prim.Native.Nat.{ℕ, zero, suc, ◌-◌, ◌/◌, ◌^◌, ◌<◌}
use native.Mathlib.Nat.{le_of_suc-le-suc, not-suc-le-zero}
use native.Mathlib.Decide.{ℕ_discrete, dec_lt}
use native.Mathlib.Omega.{arith}
use lib.Dec.{eqb}
use borrow.Author.Tests.{eqb-true, eq-eqb}
use Rattle.rule.specs.Bits.{bit, set_bit, below}
use Rattle.theory.specs.Sets.{having}
use Rattle.theory.proofs.Member.{head, tail, not-nil, cast}
use Rattle.theory.proofs.Bits.{below_in, in_below, bit_lt, bit-zero, bit_high, bits_eq, bit-same, bit_other, clear_le}
use Rattle.theory.proofs.Tests.{keep_in, in_keep}
use Rattle.theory.proofs.Perm.{Exactly, exactly_iff, once_keep, once_from, later}
use Rattle.theory.proofs.Least.{Rising, rising-from, pairwise_keep}
use Rattle.theory.proofs.Dynamic.{Lists}

-- ---- the members of a set

-- all flags below n: 2 ^ n - 1
pub full_lt : (n : ℕ) → 2 ^ n - 1 < 2 ^ n
full_lt zero = omega arith
full_lt (suc n) = omega (arith, full_lt n)

pub bit_full : (n i : ℕ) → i < n → bit (2 ^ n - 1) i ≡ 1
unfolding bit
bit_full zero i h = absurd (not-suc-le-zero h)
bit_full (suc n) zero h = omega (arith, full_lt n)
bit_full (suc n) (suc i) h =
    let e : (2 ^ suc n - 1) / 2 ≡ 2 ^ n - 1 = omega arith in
    rw e (bit_full n i (le_of_suc-le-suc h))

-- a set below 2 ^ n has members below n only
pub member_lt : (n S v : ℕ) → S < 2 ^ n → bit S v ≡ 1 → v < n
member_lt n S v h e = elim (dec_lt v n) [ yes l ↦ l | no d ↦ absurd (omega (arith, bit_high n S v h (omega arith))) ]

-- a set with no member is 0
pub empty : (n S : ℕ) → S < 2 ^ n → ((i : ℕ) → bit S i ≢ 1) → S ≡ 0
empty n S h d = bits_eq n S 0 h (omega arith) (λ i l. let k = d i in omega (arith, bit_lt S i, bit-zero i))

-- ---- the flags below n that a set has, and those that it lacks

pub having_exactly : (b n S : ℕ) → Exactly (λ (i : ℕ). (i < n) × (bit S i ≡ b)) (having b n S)
unfolding having
having_exactly b n S =
    record {
      once = once_keep has (below n) (once_from 0 n);
      sound = λ i m. let k = keep_in has (below n) m in (below_in k.0, eqb-true (bit S i) b k.1);
      whole = λ i h. in_keep has (below n) (in_below h.0) (eq-eqb (bit S i) b h.1);
    }
  where
    has : ℕ → Bool
    has v = eqb (bit S v) b

pub having-rising : (b n S : ℕ) → Rising (having b n S)
unfolding having
having-rising b n S = pairwise_keep ◌<◌ (λ (v : ℕ). eqb (bit S v) b) (below n) (rising-from 0 n)

-- l lists once each flag below n that S lacks: the flags asked before those of S
abbrev pub Before : ℕ → ℕ → List ℕ → Type 0
Before n S l = Exactly (λ (i : ℕ). (i < n) × (bit S i ≡ 0)) l

pub before_full : (n : ℕ) → Before n (2 ^ n - 1) []
before_full n =
    record { once = tt; sound = λ i m. absurd (not-nil m); whole = λ i h. absurd (omega (arith, h.1, bit_full n i h.0)) }

-- bit i of S without v
cleared : (S v i : ℕ) → ((v ≡ i) × (bit (set_bit S v 0) i ≡ 0)) ⊎ ((v ≢ i) × (bit (set_bit S v 0) i ≡ bit S i))
cleared S v i =
    elim (ℕ_discrete v i) [
      | yes e ↦ inl (e, rw (← e) (bit-same S v 0 (omega arith)))
      | no d ↦ inr (d, bit_other S v i 0 (omega arith) d)
    ]

-- one flag more is asked: v leaves S
pub before_next : (n S v : ℕ) (l : List ℕ) → v < n → bit S v ≡ 1 → Before n S l → Before n (set_bit S v 0) (v ∷ l)
before_next n S v l h e p =
    record {
      once = (λ m. omega (arith, p.sound v m), p.once);
      sound = λ i m.
          elim (cleared S v i) [ inl q ↦ (omega arith, q.1) | inr q ↦ let k = p.sound i (later q.0 m) in (k.0, q.1 ∙ k.1) ];
      whole = λ i k.
          elim (cleared S v i) [ inl q ↦ head (sym q.0) | inr q ↦ tail (p.whole i (k.0, sym q.1 ∙ k.1)) ];
    }

-- ---- the orders of the flags of a set

-- o lists once each flag below n
abbrev pub Order : ℕ → List ℕ → Type 0
Order n o = Exactly (λ (i : ℕ). i < n) o

lists_exactly : (S : ℕ) (o : List ℕ) → Lists S o → Exactly (λ (i : ℕ). bit S i ≡ 1) o
lists_exactly S [] l =
    record { once = tt; sound = λ i m. absurd (not-nil m); whole = λ i e. absurd (let z = ap (λ (x : ℕ). bit x i) l ∙ bit-zero i in omega arith) }
lists_exactly S (v ∷ o) l =
    let p = lists_exactly (set_bit S v 0) o l.1 in
    record {
      once = (λ m. omega (arith, p.sound v m, bit-same S v 0 (omega arith)), p.once);
      sound = λ i m.
          elim (cleared S v i) [ inl q ↦ rw (← q.0) l.0 | inr q ↦ sym q.1 ∙ p.sound i (later q.0 m) ];
      whole = λ i e. elim (cleared S v i) [ inl q ↦ head (sym q.0) | inr q ↦ tail (p.whole i (q.1 ∙ e)) ];
    }

exactly_lists : (n S : ℕ) (o : List ℕ) → S < 2 ^ n → Exactly (λ (i : ℕ). bit S i ≡ 1) o → Lists S o
exactly_lists n S [] h p = empty n S h (λ i e. not-nil (p.whole i e))
exactly_lists n S (v ∷ o) h p = (
  p.sound v (head refl),
  exactly_lists n (set_bit S v 0) o (omega (arith, clear_le S v))
      (record {
        once = p.once.1;
        sound = λ i m.
            elim (cleared S v i) [ inl q ↦ absurd (p.once.0 (cast q.0 m)) | inr q ↦ q.1 ∙ p.sound i (tail m) ];
        whole = λ i e.
            elim (cleared S v i) [ inl q ↦ absurd (omega (arith, q.1)) | inr q ↦ later q.0 (p.whole i (sym q.1 ∙ e)) ];
      }),
)

-- to list each flag of the full set once is to be an order
pub lists_order : (n : ℕ) (o : List ℕ) → Lists (2 ^ n - 1) o → Order n o
lists_order n o l = exactly_iff (λ i e. member_lt n (2 ^ n - 1) i (full_lt n) e) (bit_full n) (lists_exactly (2 ^ n - 1) o l)

pub order_lists : (n : ℕ) (o : List ℕ) → Order n o → Lists (2 ^ n - 1) o
order_lists n o p =
    exactly_lists n (2 ^ n - 1) o (full_lt n) (exactly_iff (bit_full n) (λ i e. member_lt n (2 ^ n - 1) i (full_lt n) e) p)
