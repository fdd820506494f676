-- The set of the flags of a list: its members, its bound, and its size where no flag stands twice.
-- Assumes nothing.
use mathlib.Core.Path.{◌≡◌, refl, sym, ap, ◌∙◌}
use mathlib.Core.Logic.{◌↔◌}
use mathlib.Core.List.{List, [], ◌∷◌, ◌++◌}
use Prim.Native.Nat.{ℕ, zero, suc, ◌+◌, ◌*◌, ◌/◌, ◌%◌, ◌^◌, ◌<◌}
use native.Mathlib.Nat.{le_of_suc-le-suc, not-suc-le-zero}
use native.Mathlib.Decide.{ℕ_discrete}
use native.Mathlib.Omega.{arith}
use lib.Count.{ones_in}
use lib.ListN.{length}
use lib.Pow.{pow_pos}
use Rattle.rule.specs.Bits.{bit, set_bit}
use Rattle.rule.specs.Sets.{flag_set, set_size}
use Rattle.theory.proofs.Member.{In, head, tail, not-nil}
use Rattle.theory.proofs.Bits.{bit_lt, bit-zero, bit-same, bit_other, set_bit_lt, set_bit_comm}
use Rattle.theory.proofs.Perm.{Once, later}
use Rattle.theory.proofs.Friedman.{Flags}

-- one flag more, at the end
pub set_snoc : (vs : List ℕ) (v : ℕ) → flag_set (vs ++ (v ∷ [])) ≡ set_bit (flag_set vs) v 1
unfolding flag_set
set_snoc [] v = refl
set_snoc (u ∷ vs) v =
    ap (λ (x : ℕ). set_bit x u 1) (set_snoc vs v)
    ∙ elim (ℕ_discrete u v) [
      | yes e ↦ rw e
      | no d ↦ set_bit_comm (flag_set vs) v u 1 1 (λ e. d (sym e)) (omega arith) (omega arith)
    ]

-- its members are those of the list
pub set_in : (vs : List ℕ) (v : ℕ) → (bit (flag_set vs) v ≡ 1) ↔ In v vs
unfolding flag_set
set_in [] v = (λ e. absurd (omega (arith, bit-zero v)), λ m. absurd (not-nil m))
set_in (u ∷ vs) v =
    elim (ℕ_discrete u v) [
      | yes e ↦ (λ q. head (sym e), λ m. rw (← e) (bit-same (flag_set vs) u 1 (omega arith)))
      | no d ↦
          let other = bit_other (flag_set vs) u v 1 (omega arith) d in
          let (f, g) = set_in vs v in
          (λ q. tail (f (sym other ∙ q)), λ m. other ∙ g (later d m))
    ]

-- flags below n make a set below 2 ^ n
pub set_lt : (n : ℕ) (vs : List ℕ) → Flags n vs → flag_set vs < 2 ^ n
unfolding flag_set
set_lt n [] f = pow_pos n
set_lt n (v ∷ vs) f = set_bit_lt n (flag_set vs) v 1 (set_lt n vs (λ i m. f i (tail m))) (f v (head refl)) (omega arith)

-- a bit that is set where it was 0 is one more
ones_set : (k x i : ℕ) → i < k → bit x i ≡ 0 → ones_in k (set_bit x i 1) ≡ suc (ones_in k x)
unfolding ones_in bit set_bit
ones_set zero x i h e = absurd (not-suc-le-zero h)
ones_set (suc k) x zero h e =
    let q : (x / 2 * 2 + 1) / 2 ≡ x / 2 = omega arith in
    rw q (omega arith)
ones_set (suc k) x (suc i) h e =
    let q : (set_bit (x / 2) i 1 * 2 + x % 2) / 2 ≡ set_bit (x / 2) i 1 = omega arith in
    rw q (omega (arith, ones_set k (x / 2) i (le_of_suc-le-suc h) e))

-- where no flag stands twice, the set has as many as the list
pub set_size_lem : (vs : List ℕ) → Once vs → Flags 10 vs → set_size (flag_set vs) ≡ length vs
unfolding flag_set
set_size_lem [] o f = unfold ones_in in refl
set_size_lem (v ∷ vs) o f =
    let absent : bit (flag_set vs) v ≡ 0 =
    elim (ℕ_discrete (bit (flag_set vs) v) 1) [ yes e ↦ absurd (o.0 ((set_in vs v).0 e)) | no d ↦ omega (arith, bit_lt (flag_set vs) v, d) ] in
    ones_set 10 (flag_set vs) v (f v (head refl)) absent ∙ ap suc (set_size_lem vs o.1 (λ i m. f i (tail m)))
