-- A set at hand and the same without one flag: the lent parts are their stretches, which can be folded and counted.
-- Assumes nothing.
use mathlib.Core.Path.{◌≡◌, sym, ap, ◌∙◌}
use mathlib.Core.List.{List}
use Prim.Native.Nat.{ℕ, ◌-◌, ◌*◌, ◌^◌, ◌≤◌, ◌<◌}
use native.Mathlib.Omega.{arith}
use lib.ListN.{length, take, drop}
use lib.Pow.{pow_mono}
use Rattle.rule.specs.Bits.{bit, set_bit}
use Rattle.rule.specs.Sets.{set_size, stretch}
use Rattle.theory.proofs.Bits.{clear_le}
use Rattle.theory.proofs.Sets.{member_lt}
use Rattle.ways.specs.Ways.{place_of, Foldable}
use Rattle.folding.proofs.Outside.{place_le, rest_size, stretch_half}
use Rattle.stretches.specs.Stretch.{stretch_of, PartOf}
use Rattle.stretches.proofs.Stretches.{part_is, stretch-length}
use Rattle.costing.specs.Ready.{Ready}

-- ---- two stretches

module _ (n S v : ℕ) (w : List ℕ) (few : n ≤ 10) (h : S < 2 ^ n) (l : 3 ^ n ≤ length w) (e : bit S v ≡ 1) where
  rest_length : length (stretch_of n w (set_bit S v 0)) ≡ stretch n (set_bit S v 0)
  rest_length = stretch-length n (set_bit S v 0) w few (omega (arith, clear_le S v)) l

  pub rest_half : length (stretch_of n w (set_bit S v 0)) ≡ length (stretch_of n w S) * 2
  rest_half = rest_length ∙ stretch_half n S v few h (member_lt n S v h e) e ∙ ap (λ (x : ℕ). x * 2) (sym (stretch-length n S w few h l))

  pub rest_foldable : Foldable (stretch_of n w (set_bit S v 0)) (place_of S v)
  rest_foldable =
      let k = rest_size n S v few h (member_lt n S v h e) e in
      record {
        flags = n - set_size S;
        ways = rest_length ∙ ap (◌^◌ 2) k;
        place = place_le n S v few h (member_lt n S v h e) e;
        few = omega arith;
      }

-- ---- a set at hand

module _ {n S : ℕ} {starts w : List ℕ} (g : Ready n S starts w) where
  pub ready_small : S < 1024
  ready_small = omega (arith, g.below, pow_mono {i = n} {j = 10} g.started.few)

  pub ready_flag : (v : ℕ) → bit S v ≡ 1 → v < n
  ready_flag v e = member_lt n S v g.below e

  pub ready_small_flag : (v : ℕ) → bit S v ≡ 1 → v < 10
  ready_small_flag v e = omega (arith, ready_flag v e, g.started.few)

  pub ready_rest : {r : ℕ} (v : ℕ) → r ≡ set_bit S v 0 → r < 2 ^ n
  ready_rest v e = omega (arith, g.below, clear_le S v)

  pub ready_kept : {y : List ℕ} → length y ≡ length w → Ready n S starts y
  ready_kept e = record { started = g.started; below = g.below; some = g.some; lent = omega (arith, g.lent) }

  module _ {r from to start end : ℕ} (v : ℕ) (e : bit S v ≡ 1) (rest : r ≡ set_bit S v 0) where
    module _ (a : PartOf n r from to) (b : PartOf n S start end) where
      pub source_is : take (to - from) (drop from w) ≡ stretch_of n w (set_bit S v 0)
      source_is = part_is w a ∙ ap (stretch_of n w) rest

      pub own_is : take (end - start) (drop start w) ≡ stretch_of n w S
      own_is = part_is w b

      -- the two parts fit to be folded, or counted
      pub can_fold : {p : ℕ} → p ≡ place_of S v → Foldable (take (to - from) (drop from w)) p × (length (take (to - from) (drop from w)) ≡ length (take (end - start) (drop start w)) * 2)
      can_fold q =
          rw (source_is, own_is, q)
          (rest_foldable n S v w g.started.few g.below g.lent e, rest_half n S v w g.started.few g.below g.lent e)
