-- A rule with flags fixed to the bits of a number: one flag more is a cofactor, the rules that arise are these, and with every flag fixed one row is left.
-- Assumes nothing.
use mathlib.Core.Path.{◌≡◌, refl, sym, ap, ◌∙◌}
use mathlib.Core.List.{List, [], ◌∷◌, ◌++◌}
use Prim.Native.Nat.{ℕ, zero, suc, ◌+◌, ◌*◌, ◌/◌, ◌%◌, ◌^◌, ◌<◌}
use native.Mathlib.Omega.{arith}
use lib.ListN.{length}
use Rattle.rule.specs.Bits.{bit, from}
use Rattle.rule.specs.Table.{cofactor, fixings, restrict}
use Rattle.theory.proofs.Member.{In, head, tail, eq_of_singleton}
use Rattle.theory.proofs.Cofactor.{length-cofactor, cofactor_comm}
use Rattle.theory.proofs.Friedman.{Flags, branch, unbranch}
use Rattle.ways.specs.Ways.{insert_bit}
use Rattle.folding.specs.Codes.{fixed_by}

pub length_fixed : (vs : List ℕ) (i : ℕ) (t : List ℕ) → length (fixed_by vs i t) ≡ length t
unfolding fixed_by
length_fixed [] i t = refl
length_fixed (v ∷ vs) i t = length_fixed vs (i / 2) (cofactor v (i % 2) t) ∙ length-cofactor v (i % 2) t

-- a number with a digit below it
digits : (vs : List ℕ) (v x b : ℕ) (t : List ℕ) → b < 2 → fixed_by (v ∷ vs) (x * 2 + b) t ≡ fixed_by vs x (cofactor v b t)
unfolding fixed_by
digits vs v x b t h =
    let e : (x * 2 + b) / 2 ≡ x = omega arith in
    let f : (x * 2 + b) % 2 ≡ b = omega arith in
    rw (e, f)

-- ---- one flag more

module _ (n v b : ℕ) (v<n : v < n) (b<2 : b < 2) where
  -- a flag is fixed before the others or after them
  fixed_comm : (vs : List ℕ) (i : ℕ) (t : List ℕ) → length t ≡ 2 ^ n → Flags n vs → (In v vs → ⊥)
      → fixed_by vs i (cofactor v b t) ≡ cofactor v b (fixed_by vs i t)
  unfolding fixed_by
  fixed_comm [] i t fit f d = refl
  fixed_comm (u ∷ vs) i t fit f d =
      ap (fixed_by vs (i / 2)) (cofactor_comm n t fit u v (i % 2) b (f u (head refl)) v<n (omega arith) b<2 (λ e. d (head (sym e))))
      ∙ fixed_comm vs (i / 2) (cofactor u (i % 2) t) (length-cofactor u (i % 2) t ∙ fit) (λ w m. f w (tail m)) (λ m. d (tail m))

  -- to insert its bit where it stands in the list is to fix it too
  pub fixed_insert : (ps qs : List ℕ) (i : ℕ) (t : List ℕ) → length t ≡ 2 ^ n → Flags n (ps ++ qs) → (In v (ps ++ qs) → ⊥)
      → fixed_by (ps ++ (v ∷ qs)) (insert_bit i (length ps) b) t ≡ cofactor v b (fixed_by (ps ++ qs) i t)
  unfolding insert_bit
  fixed_insert [] qs i t fit f d = digits qs v i b t b<2 ∙ fixed_comm qs i t fit f d
  fixed_insert (u ∷ ps) qs i t fit f d =
      digits (ps ++ (v ∷ qs)) u (insert_bit (i / 2) (length ps) b) (i % 2) t (omega arith)
      ∙ fixed_insert ps qs (i / 2) (cofactor u (i % 2) t) (length-cofactor u (i % 2) t ∙ fit) (λ w m. f w (tail m)) (λ m. d (tail m))
      ∙ unfold fixed_by in refl

-- ---- the rules that arise by fixing flags

pub fixed_in : (vs : List ℕ) (i : ℕ) (t : List ℕ) → In (fixed_by vs i t) (fixings vs t)
unfolding fixed_by
fixed_in [] i t = unfold fixings in head refl
fixed_in (v ∷ vs) i t = branch v vs t (i % 2) (omega arith) (fixed_in vs (i / 2) (cofactor v (i % 2) t))

pub in_fixed : (vs t : List ℕ) {u : List ℕ} → In u (fixings vs t) → (i : ℕ) × (i < 2 ^ length vs) × (fixed_by vs i t ≡ u)
unfolding fixings
in_fixed [] t m = (0, omega arith, unfold fixed_by in sym (eq_of_singleton m))
in_fixed (v ∷ vs) t m =
    let (b, b<2, k) = unbranch v vs t m in
    let (i, h, e) = in_fixed vs (cofactor v b t) k in
    let l : i * 2 + b < 2 ^ suc (length vs) = omega (arith, h, b<2) in
    (i * 2 + b, l, digits vs v i b t b<2 ∙ e)

-- ---- every flag fixed

-- the flags from a on, to the bits of a row from a on
pub fixed_row : (a k i row : ℕ) (t : List ℕ) → ((m : ℕ) → bit row (a + m) ≡ bit i m) → fixed_by (from a k) i t ≡ restrict (from a k) row t
unfolding fixed_by restrict from bit
fixed_row a zero i row t f = refl
fixed_row a (suc k) i row t f =
    ap (λ (b : ℕ). fixed_by (from (suc a) k) (i / 2) (cofactor a b t)) own
    ∙ fixed_row (suc a) k (i / 2) row (cofactor a (bit row a) t) next
  where
    own : i % 2 ≡ bit row a
    own = let q : a + 0 ≡ a = omega arith in sym (rw q at (f 0))

    next : (m : ℕ) → bit row (suc a + m) ≡ bit (i / 2) m
    next m = let q : a + suc m ≡ suc a + m = omega arith in rw q at (f (suc m))
