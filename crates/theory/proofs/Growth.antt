-- How a store grows: older records stay as they are, and each new record's table is one that the result calls for.
-- Assumes nothing.
use mathlib.Core.Path.{◌≡◌, refl, sym, ap, ◌∙◌}
use mathlib.Core.Logic.{inl, inr}
use mathlib.Core.List.{List}
use Prim.Native.Nat.{ℕ, ◌+◌, ◌≤◌, ◌<◌}
use native.Mathlib.Decide.{dec_lt}
use native.Mathlib.Omega.{arith}
use Rattle.rule.specs.Order.{flags, level}
use Rattle.rule.specs.Walk.{table_of}
use Rattle.theory.proofs.Member.{In}
use Rattle.theory.proofs.Perm.{Within}
use Rattle.theory.specs.Growth.{Grows}
use Rattle.theory.specs.Level.{level_of}
use Rattle.theory.specs.Shape.{Shaped}
use Rattle.theory.proofs.Walks.{node, smaller, table_kept, flag_kept}
use Rattle.theory.proofs.Canonical.{level_end, level_record}

pub grows_none : {n used : ℕ} {order c : List ℕ} (goal : List (List ℕ)) → Shaped n order c used → Grows n order goal c used c used
grows_none goal s = record { lent = refl; is_sound = s; grown = omega arith; old = λ i h. refl; within = λ k h l. absurd (omega arith) }

pub grows_within : {n used more : ℕ} {order c d : List ℕ} {goal goal' : List (List ℕ)} → Within goal goal' → Grows n order goal c used d more
    → Grows n order goal' c used d more
grows_within w g =
    record { lent = g.lent; is_sound = g.is_sound; grown = g.grown; old = g.old; within = λ k h l. w _ (g.within k h l) }

-- an older node keeps its table
pub older : {n used more : ℕ} {order c d : List ℕ} {goal : List (List ℕ)} → Shaped n order c used → Grows n order goal c used d more → (m : ℕ) → m ≤ used + 1
    → table_of n d m ≡ table_of n c m
older {n} {used} {more} {order} {c} {d} s g m h = sym (table_kept c d used (λ i l. sym (g.old i l)) (smaller s) n m h)

pub grows_more : {n used more most : ℕ} {order c d e : List ℕ} {goal : List (List ℕ)}
    → Grows n order goal c used d more → Grows n order goal d more e most → Grows n order goal c used e most
grows_more {n} {used} {more} {most} {order} {c} {d} {e} {goal} f g =
    let a = f.grown in
    let b = g.grown in
    record {
      lent = g.lent ∙ f.lent;
      is_sound = g.is_sound;
      grown = omega arith;
      old = λ i h. g.old i (omega arith) ∙ f.old i h;
      within = λ k h l. go k h l (dec_lt k more);
    }
  where
    go : (k : ℕ) → used ≤ k → k < most → Dec (k < more) → In (table_of n e (k + 2)) goal
    go k h l (yes x) = rw (older f.is_sound g (k + 2) (omega arith)) (f.within k h x)
    go k h l (no x) = g.within k (omega arith) l

-- an older node keeps its level
pub older_level : {n used more : ℕ} {order c d : List ℕ} {goal : List (List ℕ)} → Grows n order goal c used d more → (m : ℕ) → m ≤ used + 1
    → level_of n order d m ≡ level_of n order c m
older_level {n} {used} {more} {order} {c} {d} g m h =
    elim (node m) [
      | inl l ↦ level_end n order d m l ∙ sym (level_end n order c m l)
      | inr (k, e) ↦ rw e
          (level_record n order d k
          ∙ ap (level (flags n order)) (flag_kept d c used g.old k (omega arith))
          ∙ sym (level_record n order c k))
    ]
