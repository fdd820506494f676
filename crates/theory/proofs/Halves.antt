-- Of the rows that pass a test which doesn't look at a flag, half have the flag at 0 and half at 1.
-- Assumes nothing.
use mathlib.Core.Path.{◌≡◌, sym, ap, ◌∙◌}
use mathlib.Core.Bool.{Bool, true, ◌&&◌}
use mathlib.Core.List.{List, map}
use Prim.Native.Nat.{ℕ, zero, suc, ◌+◌, ◌*◌, ◌^◌, ◌≤◌, ◌<◌}
use native.Mathlib.Omega.{arith}
use borrow.Author.Tests.{eqb-true, eq-eqb}
use lib.Dec.{eqb}
use lib.ListN.{length, length-map}
use Rattle.rule.specs.Bits.{bit, set_bit, below}
use Rattle.rule.specs.Tests.{keep}
use Rattle.theory.proofs.Member.{In, map-in, cast}
use Rattle.theory.proofs.Bits.{below_in, in_below, bit_lt, bit-same, set_bit_lt, set_bit_twice, set_bit_own}
use Rattle.theory.proofs.Tests.{and_split, and_join, keep_in, in_keep}
use Rattle.theory.proofs.Perm.{once_keep, once_from, once_map, once_length}
use Rattle.theory.proofs.Scan.{more}
use Rattle.theory.proofs.Sums.{count_split}

-- the flag is b in the row, and the row passes
abbrev pub side : ℕ → (ℕ → Bool) → ℕ → ℕ → Bool
side v q b r = eqb (bit r v) b && q r

-- a row is on one side or the other
pub sides : (v : ℕ) (q : ℕ → ℕ → Bool) (r : ℕ) → more (q (bit r v) r) ≡ more (side v (q 0) 0 r) + more (side v (q 1) 1 r)
sides v q r = go (bit r v) (bit_lt r v)
  where
    go : (b : ℕ) → b < 2 → more (q b r) ≡ more (eqb b 0 && q 0 r) + more (eqb b 1 && q 1 r)
    go zero h = omega arith
    go (suc zero) h = omega arith
    go (suc (suc b)) h = absurd (omega arith)

module _ (n v : ℕ) (v<n : v < n) (q : ℕ → Bool) (free : (r b : ℕ) → b < 2 → q (set_bit r v b) ≡ q r) where
  rows_at : ℕ → List ℕ
  rows_at b = keep (side v q b) (below (2 ^ n))

  at_is : (b r : ℕ) → In r (rows_at b) → (r < 2 ^ n) × (bit r v ≡ b) × (q r ≡ true)
  unfolding rows_at
  at_is b r m =
      let (k, e) = keep_in (side v q b) (below (2 ^ n)) m in
      let (x, y) = and_split (eqb (bit r v) b) (q r) e in
      (below_in k, eqb-true (bit r v) b x, y)

  is_at : (b r : ℕ) → r < 2 ^ n → bit r v ≡ b → q r ≡ true → In r (rows_at b)
  unfolding rows_at
  is_at b r h x y = in_keep (side v q b) (below (2 ^ n)) (in_below h) (and_join (eq-eqb (bit r v) b x) y)

  -- a row is turned to the other side and back
  back : (a b r : ℕ) → b < 2 → bit r v ≡ a → set_bit (set_bit r v b) v a ≡ r
  back a b r h e = set_bit_twice r v b a h ∙ ap (set_bit r v) (sym e) ∙ set_bit_own r v

  at_le : (a b : ℕ) → b < 2 → length (rows_at a) ≤ length (rows_at b)
  at_le a b h =
      omega (
        arith,
        length-map (rows_at a) (λ r. set_bit r v b),
        once_length (map (λ r. set_bit r v b) (rows_at a)) (rows_at b)
            (once_map (λ r. set_bit r v b) (rows_at a)
            (λ r s mr ms e. sym (back a b r h (at_is a r mr).1) ∙ ap (λ (x : ℕ). set_bit x v a) e ∙ back a b s h (at_is a s ms).1)
            (unfold rows_at in once_keep (side v q a) (below (2 ^ n)) (once_from 0 (2 ^ n))))
            (λ x m.
            let (r, k, e) = map-in (λ r. set_bit r v b) (rows_at a) m in
            let (l, d, y) = at_is a r k in
            cast (sym e) (is_at b (set_bit r v b) (set_bit_lt n r v b l v<n h) (bit-same r v b h) (free r b h ∙ y))),
      )

  at_both : length (keep q (below (2 ^ n))) ≡ length (rows_at 0) + length (rows_at 1)
  unfolding rows_at
  at_both = count_split (side v q 0) (side v q 1) q (below (2 ^ n)) (sides v (λ b. q))

  -- each side has half of the rows that pass
  pub half : (b : ℕ) → b < 2 → length (keep (side v q b) (below (2 ^ n))) * 2 ≡ length (keep q (below (2 ^ n)))
  unfolding rows_at
  half zero h = omega (arith, at_both, at_le 0 1 (omega arith), at_le 1 0 (omega arith))
  half (suc zero) h = omega (arith, at_both, at_le 0 1 (omega arith), at_le 1 0 (omega arith))
  half (suc (suc b)) h = absurd (omega arith)
