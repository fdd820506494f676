-- A level never has more than 512 nodes: each comes of a way of its own to fix the flags before it, and of up to ten flags at most nine stand before one. In a
-- table whose rows are all different each way is a node: so the statement bounds whatever is counted of the ways, by codes of a rule or not.
-- Assumes nothing.
use mathlib.Core.Path.{◌≡◌, sym, ap, ◌∙◌}
use mathlib.Core.Logic.{inl, inr}
use mathlib.Core.Bool.{Bool}
use mathlib.Core.List.{List, ◌∷◌, map}
use Prim.Native.Nat.{ℕ, suc, ◌*◌, ◌^◌, ◌≤◌, ◌<◌}
use native.Mathlib.Nat.{le_of_suc-le-suc, eq-or-lt_of_le}
use native.Mathlib.Omega.{arith}
use lib.ListN.{length, get_or}
use lib.Pow.{pow_mono, pow_pos}
use Rattle.rule.specs.Bits.{bit, set_bit, below}
use Rattle.rule.specs.Table.{tabled, cofactor, restrict}
use Rattle.rule.specs.Level.{level_nodes, level_count}
use Rattle.theory.proofs.Member.{In, head, tail, cases_cons, in_map, map-in, cast}
use Rattle.theory.proofs.Bits.{length_from, length-below, below_in, in_below, map_below, bit-same, bit_other, bit_high, set_bit_lt, set_bit_own}
use Rattle.theory.proofs.Perm.{once_length, once_map, once_from}
use Rattle.theory.proofs.Cofactor.{differ_depends}
use Rattle.theory.proofs.Friedman.{level_in, in_level, level_once}
use Rattle.theory.proofs.Restrict.{restrict_in, restrict-agree, restrict_next, restrict_all}
use Rattle.ways.specs.Ways.{Foldable}
use Rattle.folding.specs.Codes.{fixed_by}
use Rattle.folding.specs.LevelBound.{LevelBound}
use Rattle.folding.proofs.Fixed.{in_fixed}
use Rattle.folding.proofs.Counted.{passing, passing_le}

pub level_bound : LevelBound
level_bound v before t h =
    let rule : ℕ → List ℕ = λ i. fixed_by before i t in
    omega (
      arith,
      once_length (level_nodes before v t) (map rule (below (2 ^ length before))) (level_once before v t)
          (λ u m. let (i, l, e) = in_fixed before t (level_in before v t m).0 in cast (sym e) (in_map rule (in_below l))),
      length-below rule (2 ^ length before),
      pow_mono {i = length before} {j = 9} (omega arith),
    )

-- ---- the table with the most nodes

module _ (k : ℕ) where
  -- no two of its rows are alike
  apart : List ℕ
  apart = tabled (suc k) (λ r. r)

  -- the rule that way i leaves of it
  node : ℕ → List ℕ
  node i = restrict (below k) i apart

  -- its two halves are two rows
  half : (i b : ℕ) → i < 2 ^ k → b < 2 → get_or (cofactor k b (node i)) 0 0 ≡ set_bit i k b
  unfolding apart node
  half i b h l =
      let row = set_bit i k b in
      let fit = length-below (λ (r : ℕ). r) (2 ^ suc k) in
      let small : row < 2 ^ suc k = set_bit_lt (suc k) i k b (omega arith) (omega arith) l in
      ap (λ (u : List ℕ). get_or (cofactor k b u) 0 0)
      (restrict-agree (below k) i row apart (λ j m. sym (bit_other i k j b l (λ e. omega (arith, e, below_in m)))))
      ∙ ap (λ (x : ℕ). get_or (cofactor k x (restrict (below k) row apart)) 0 0) (sym (bit-same i k b l))
      ∙ ap (λ (u : List ℕ). get_or u 0 0) (restrict_next (suc k) row k (below k) apart fit (omega arith) (λ j m. omega (arith, below_in m)))
      ∙ restrict_all (suc k) (k ∷ below k) row apart fit
      (λ j m. elim (cases_cons m) [ inl e ↦ omega (arith, e) | inr q ↦ omega (arith, below_in q) ])
      (λ j q. elim (eq-or-lt_of_le (le_of_suc-le-suc q)) [ inl e ↦ head e | inr r ↦ tail (in_below r) ])
      small 0 (pow_pos (suc k))
      ∙ map_below (λ r. r) (2 ^ suc k) row 0 small

  -- so it depends on k
  node_asks : (i : ℕ) → i < 2 ^ k → In (node i) (level_nodes (below k) k apart)
  unfolding node
  node_asks i h =
      in_level (below k) k apart (restrict_in (below k) i apart)
      (differ_depends k (node i)
      (λ e.
      omega (
        arith,
        bit-same i k 0 (omega arith),
        bit-same i k 1 (omega arith),
        ap (λ (x : ℕ). bit x k) (sym (half i 0 h (omega arith)) ∙ ap (λ (u : List ℕ). get_or u 0 0) e ∙ half i 1 h (omega arith)),
      )))

  top_clear : (i : ℕ) → i < 2 ^ k → set_bit i k 0 ≡ i
  top_clear i h = ap (set_bit i k) (sym (bit_high k i k h (omega arith))) ∙ set_bit_own i k

  -- and no other way leaves it
  node_one : (i j : ℕ) → i < 2 ^ k → j < 2 ^ k → node i ≡ node j → i ≡ j
  node_one i j h l e =
      sym (top_clear i h) ∙ sym (half i 0 h (omega arith)) ∙ ap (λ (u : List ℕ). get_or (cofactor k 0 u) 0 0) e ∙ half j 0 l (omega arith) ∙ top_clear j l

  -- each way is a node: the bound is met
  all_nodes : 2 ^ k ≤ level_count (below k) k apart
  all_nodes =
      omega (
        arith,
        length-below node (2 ^ k),
        once_length (map node (below (2 ^ k))) (level_nodes (below k) k apart)
            (once_map node (below (2 ^ k)) (λ i j mi mj. node_one i j (below_in mi) (below_in mj)) (once_from 0 (2 ^ k)))
            (λ u m. let (i, mi, e) = map-in node (below (2 ^ k)) m in cast (sym e) (node_asks i (below_in mi))),
      )

-- so at most 512 ways of a stretch are counted, whatever the test
pub counted_few : {s : List ℕ} {p : ℕ} → Foldable s p → (i : ℕ) → i * 2 ≤ length s → (test : ℕ → Bool) → passing test i ≤ 512
counted_few f i l test =
    let k = f.flags in
    omega (arith, passing_le test i, f.ways, all_nodes k, level_bound k (below k) (apart k) (omega (arith, length_from 0 k, f.few)))
