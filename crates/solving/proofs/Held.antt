-- A set's stretch, folded from the one of the set without one flag, which is held aside.
-- Assumes nothing.
use mathlib.Core.Path.{◌≡◌, ap, ◌∙◌}
use mathlib.Core.List.{List, ◌++◌}
use Prim.Native.Nat.{ℕ, ◌-◌, ◌*◌}
use native.Mathlib.Nat.{sub-zero}
use native.Mathlib.Omega.{arith}
use lib.ListN.{length, take, drop}
use lib.Seq.{take_at}
use Rattle.rule.specs.Bits.{bit, set_bit}
use Rattle.rule.specs.Sets.{stretch}
use Rattle.ways.specs.Ways.{place_of, Foldable}
use Rattle.folding.specs.Fold.{Folds}
use Rattle.stretches.specs.Stretch.{stretch_of, PartOf}
use Rattle.stretches.proofs.Parts.{part, part_length}
use Rattle.stretches.proofs.Stretches.{stretch-length, written_length, written_own, written_other}
use Rattle.costing.specs.Ready.{Ready}
use Rattle.costing.proofs.Ready.{rest_half, source_is, can_fold}
use Rattle.solving.specs.Solves.{Folded}

module _ {n S : ℕ} {starts w : List ℕ} (g : Ready n S starts w) {r from to start end : ℕ} (v : ℕ) (e : bit S v ≡ 1) (rest : r ≡ set_bit S v 0)
    (a : PartOf n r from to) (b : PartOf n S start end) where
  folded : (ys : List ℕ) → Folds (stretch_of n w (set_bit S v 0)) (place_of S v) ys → Folded n S v w (take start w ++ (ys ++ drop (end - start) (drop start w)))
  folded ys f =
      let few = g.started.few in
      let k : length ys ≡ stretch n S =
      omega (arith, f.half, rest_half n S v w few g.below g.lent e, stretch-length n S w few g.below g.lent) in
      record {
        lent = written_length w few g.below g.lent b ys k;
        folds = rw (written_own w few g.below g.lent b ys k) f;
        others = written_other w few g.below g.lent b ys k;
      }

  -- the part that is read, held aside
  module _ {d : List ℕ} (held : d ≡ take (to - from) (drop from w)) (tail : List ℕ) where
    held_length : length d ≡ to - from
    unfolding part
    held_length = ap length held ∙ part_length w from (to - from) (omega (arith, a.start_is, a.end_is, a.fits, g.lent))

    held_is : take (to - from - 0) (d ++ tail) ≡ take (to - from) (drop from w)
    held_is = ap (λ (k : ℕ). take k (d ++ tail)) (sub-zero (to - from)) ∙ take_at d tail (to - from) held_length ∙ held

    pub can_fold_held : {p : ℕ} → p ≡ place_of S v → Foldable (take (to - from - 0) (d ++ tail)) p × (length (take (to - from - 0) (d ++ tail)) ≡ length (take (end - start) (drop start w)) * 2)
    can_fold_held q = rw held_is (can_fold g v e rest a b q)

    pub folded_held : {s : List ℕ} {p q : ℕ} {ys : List ℕ} → q ≡ place_of S v → (s ≡ take (to - from - 0) (d ++ tail)) × (p ≡ q) → Folds s p ys → Folded n S v w (take start w ++ (ys ++ drop (end - start) (drop start w)))
    folded_held {ys = ys} place halves f = folded ys (rw (halves.0 ∙ held_is ∙ source_is g v e rest a b, halves.1 ∙ place) at f)
