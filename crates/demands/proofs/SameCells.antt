-- Cells with the same entries, however many zeros stand behind them, have the same records, and are a diagram together.
-- Assumes nothing.
use mathlib.Core.Path.{◌≡◌, refl, ap, ◌∙◌}
use mathlib.Core.Bool.{Bool, true, false, ◌||◌}
use mathlib.Core.List.{List}
use Prim.Native.Nat.{ℕ, zero, suc, ◌+◌, ◌*◌, ◌≤◌}
use lib.Dec.{eqb}
use lib.ListN.{get_or}
use Rattle.rule.specs.Cells.{width, room, flag_at, low_at, high_at, record_of, is_end, records_in}
use Rattle.rule.specs.Diagram.{reach_in, diagram}
use Rattle.rule.specs.Sequence.{precedes, in_sequence}
use Rattle.theory.proofs.Reach.{diagram_view, view_diagram}

module _ (c d : List ℕ) (same : (i : ℕ) → get_or d i 0 ≡ get_or c i 0) where
  flag_same : (k : ℕ) → flag_at d k ≡ flag_at c k
  unfolding flag_at
  flag_same k = same (k * width)

  low_same : (k : ℕ) → low_at d k ≡ low_at c k
  unfolding low_at
  low_same k = same (k * width + 1)

  high_same : (k : ℕ) → high_at d k ≡ high_at c k
  unfolding high_at
  high_same k = same (k * width + 2)

  pub records_same : (k : ℕ) → records_in d k ≡ records_in c k
  records_same k = simp (flag_same, low_same, high_same)

  -- so they stand in sequence together
  pub sequence_same : (n : ℕ) (order : List ℕ) (used : ℕ) → in_sequence n order d used ≡ in_sequence n order c used
  unfolding in_sequence precedes
  sequence_same n order used = simp (flag_same, low_same, high_same)

  reach_same : (steps top m : ℕ) → reach_in steps d top m ≡ reach_in steps c top m
  unfolding reach_in
  reach_same zero top m = refl
  reach_same (suc steps) top m =
      let k = record_of top in
      ap (λ (b : Bool). eqb top m || elim (is_end top) [ true ↦ false | false ↦ b ])
      (rw (low_same k, high_same k, reach_same steps (low_at c k) m, reach_same steps (high_at c k) m))

  pub diagram_same : (n : ℕ) (order : List ℕ) (used root : ℕ) → used ≤ room d → diagram n order c used root ≡ true → diagram n order d used root ≡ true
  diagram_same n order used root fits e =
      let v = diagram_view n order c used root e in
      let s = v.cells in
      view_diagram n order d used root
      (record {
        cells =
            record {
              fits = fits;
              flag = simp flag_same s.flag;
              differ = simp (low_same, high_same) s.differ;
              low_smaller = simp low_same s.low_smaller;
              high_smaller = simp high_same s.high_smaller;
              low_later = simp (flag_same, low_same) s.low_later;
              high_later = simp (flag_same, high_same) s.high_later;
              once = simp (flag_same, low_same, high_same) s.once;
              clear = λ i h. same i ∙ s.clear i h;
            };
        root_is = v.root_is;
        reached = λ k h. reach_same root root (k + 2) ∙ v.reached k h;
      })
