-- The rows of a table by the values that they give some flags: each way to fix these is that of equally many rows, twice as many for each flag left free.
-- Assumes nothing.
use mathlib.Core.Path.{◌≡◌, refl, sym, ap, ap₂, ◌∙◌}
use mathlib.Core.Bool.{Bool}
use mathlib.Core.List.{List, [], ◌∷◌}
use Prim.Native.Nat.{ℕ, zero, suc, ◌+◌, ◌*◌, ◌/◌, ◌%◌, ◌^◌, ◌<◌}
use native.Mathlib.Nat.{add-mul, mul_assoc}
use native.Mathlib.Omega.{arith}
use lib.ListN.{length}
use Rattle.rule.specs.Bits.{bit, set_bit, from, below}
use Rattle.rule.specs.Tests.{keep}
use Rattle.rule.specs.Table.{cofactor, restrict}
use Rattle.theory.proofs.Member.{In, head, tail, cast}
use Rattle.theory.proofs.Bits.{length_from, bit_other}
use Rattle.theory.proofs.Perm.{Once}
use Rattle.theory.proofs.Friedman.{Flags}
use Rattle.theory.proofs.Restrict.{restrict-agree}
use Rattle.theory.proofs.Scan.{more, counted}
use Rattle.theory.proofs.Sums.{count_split, count_all}
use Rattle.theory.proofs.Halves.{side, sides, half}
use Rattle.folding.specs.Codes.{fixed_by}

-- a count over twice as many numbers is one over the even and one over the odd
count_twice : (p q r : ℕ → Bool) (m : ℕ) → ((j : ℕ) → r (j * 2) ≡ p j) → ((j : ℕ) → r (j * 2 + 1) ≡ q j)
    → length (keep r (below (m * 2))) ≡ length (keep p (below m)) + length (keep q (below m))
count_twice p q r zero e f = unfold keep from in refl
count_twice p q r (suc m) e f =
    let a : suc m * 2 ≡ m * 2 + 1 + 1 = omega arith in
    let b : suc m ≡ m + 1 = omega arith in
    rw (a, b)
    (omega (
      arith,
      counted r (m * 2 + 1),
      counted r (m * 2),
      counted p m,
      counted q m,
      ap more (e m),
      ap more (f m),
      count_twice p q r m e f,
    ))

module _ (n : ℕ) (p : List ℕ → Bool) where
  -- the rows whose table passes, with the flags fixed as in the row
  abbrev row_count : List ℕ → List ℕ → ℕ
  row_count vs t = length (keep (λ r. p (restrict vs r t)) (below (2 ^ n)))

  -- the ways to fix them whose table passes
  abbrev way_count : List ℕ → List ℕ → ℕ
  way_count vs t = length (keep (λ i. p (fixed_by vs i t)) (below (2 ^ length vs)))

  -- one flag more: half of the rows on either side
  rows_next : (v : ℕ) (vs t : List ℕ) → v < n → (In v vs → ⊥)
      → row_count (v ∷ vs) t * 2 ≡ row_count vs (cofactor v 0 t) + row_count vs (cofactor v 1 t)
  unfolding restrict
  rows_next v vs t v<n d =
      omega (
        arith,
        count_split (side v (test 0) 0) (side v (test 1) 1) (λ r. test (bit r v) r) (below (2 ^ n)) (sides v test),
        half n v v<n (test 0) (free 0) 0 (omega arith),
        half n v v<n (test 1) (free 1) 1 (omega arith),
      )
    where
      test : ℕ → ℕ → Bool
      test b r = p (restrict vs r (cofactor v b t))

      free : (a r b : ℕ) → b < 2 → test a (set_bit r v b) ≡ test a r
      free a r b h = ap p (restrict-agree vs (set_bit r v b) r (cofactor v a t) (λ i m. bit_other r v i b h (λ e. d (cast e m))))

  ways_next : (v : ℕ) (vs t : List ℕ) → way_count (v ∷ vs) t ≡ way_count vs (cofactor v 0 t) + way_count vs (cofactor v 1 t)
  unfolding fixed_by
  ways_next v vs t =
      let a : 2 ^ suc (length vs) ≡ 2 ^ length vs * 2 = omega arith in
      rw a
      (count_twice (λ i. p (fixed_by vs i (cofactor v 0 t))) (λ i. p (fixed_by vs i (cofactor v 1 t))) (λ i. p (fixed_by vs (i / 2) (cofactor v (i % 2) t)))
      (2 ^ length vs)
      (λ j.
      let x : j * 2 / 2 ≡ j = omega arith in
      let y : j * 2 % 2 ≡ 0 = omega arith in
      rw (x, y))
      (λ j.
      let x : (j * 2 + 1) / 2 ≡ j = omega arith in
      let y : (j * 2 + 1) % 2 ≡ 1 = omega arith in
      rw (x, y)))

  -- each way is that of 2 ^ free rows
  pub rows_ways : (vs t : List ℕ) (free : ℕ) → length vs + free ≡ n → Once vs → Flags n vs → row_count vs t ≡ way_count vs t * 2 ^ free
  rows_ways [] t free e o f =
      let z : free ≡ n = omega arith in
      rw z
      (unfold restrict fixed_by in
      count_all (p t) (below (2 ^ n))
      ∙ ap₂ ◌*◌ (sym (one (p t))) (length_from 0 (2 ^ n)))
    where
      one : (b : Bool) → length (keep (λ (i : ℕ). b) (below 1)) ≡ more b
      one b = unfold from in count_all b (0 ∷ []) ∙ omega arith
  rows_ways (v ∷ vs) t free e o f =
      let g : Flags n vs = λ i m. f i (tail m) in
      let a = rows_ways vs (cofactor v 0 t) (suc free) (omega arith) o.1 g in
      let b = rows_ways vs (cofactor v 1 t) (suc free) (omega arith) o.1 g in
      omega (
        arith,
        rows_next v vs t (f v (head refl)) o.0,
        a ∙ up (way_count vs (cofactor v 0 t)),
        b ∙ up (way_count vs (cofactor v 1 t)),
        ap (λ (x : ℕ). x * 2 ^ free) (ways_next v vs t) ∙ add-mul (way_count vs (cofactor v 0 t)) (way_count vs (cofactor v 1 t)) (2 ^ free),
      )
    where
      up : (x : ℕ) → x * 2 ^ suc free ≡ x * 2 ^ free * 2
      up x = let q : 2 ^ suc free ≡ 2 ^ free * 2 = omega arith in ap (λ (y : ℕ). x * y) q ∙ sym (mul_assoc x (2 ^ free) 2)
