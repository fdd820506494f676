-- The cells that a diagram is drawn in aside: the first of a local array, as many as were lent. Its records are then put in sequence.
-- Assumes nothing.
use mathlib.Core.Path.{◌≡◌, refl, sym, ap, subst, ◌∙◌}
use mathlib.Core.List.{List, ◌++◌}
use Prim.Native.Nat.{ℕ, ◌-◌, ◌≤◌}
use native.Mathlib.Nat.{sub-zero}
use lib.ListN.{length, take, length-replicate}
use lib.Seq.{take_at}
use Rattle.rule.specs.Level.{nodes_of}
use Rattle.rule.specs.Order.{flags}
use Rattle.rule.specs.Cells.{most_cells}
use Rattle.rule.proofs.Zeros.{zeros, take-zeros}
use Rattle.rule.specs.Table.{restrict}
use Rattle.unique.specs.declared.node.Grown.{Grown}
use Rattle.std.specs.Prelude.{true, false, Option, Some, None, is_some}
use Rattle.unique.specs.Search.{FoundAs, Grew}
use Rattle.sequencing.specs.Move.{Sequenced}
use Rattle.drawing.specs.Draw.{Drawing, Draw}
use Rattle.building.specs.Fill.{Fits, Fills, FillsBy}
use Rattle.building.proofs.Filled.{start, filled, exceeds}

held_is : (k : ℕ) → k ≤ most_cells → take (k - 0) (zeros most_cells) ≡ zeros k
held_is k h = ap (λ (i : ℕ). take i (zeros most_cells)) (sub-zero k) ∙ take-zeros k most_cells h

module _ {n : ℕ} {t order c : List ℕ} (f : Fits n t order c) where
  is_held : take (length c - 0) (zeros most_cells) ≡ zeros (length c)
  is_held = held_is (length c) f.lent

  pub begin : Drawing n t order 0 0 (take (length c - 0) (zeros most_cells)) 0
  begin = subst (λ (z : List ℕ). Drawing n t order 0 0 z 0) (sym is_held) (start f)

  module _ {r : Grown} {d : List ℕ} (a : Draw n t order 0 0 (take (length c - 0) (zeros most_cells)) 0 r d) where
    pub drawn_length : length d ≡ length c
    drawn_length = a.grows.lent ∙ ap length is_held ∙ length-replicate (length c) 0

    -- the answer in hand
    known : (x : Option ℕ) → r.found ≡ x → Grew n order (nodes_of (flags n order) t) 0 t (zeros (length c)) 0 (record { used = r.used; found = x }) d
    unfolding restrict
    known x e =
        subst (λ (z : List ℕ). Grew n order (nodes_of (flags n order) t) 0 t z 0 (record { used = r.used; found = x }) d) is_held
        (record { grows = a.grows; is = subst (λ (y : Option ℕ). FoundAs y n order (nodes_of (flags n order) t) 0 t d r.used) e a.is })

    -- there was no room, and the lent cells are left alone
    pub end_full : is_some r.found ≡ false → Fills n t order c r c
    end_full h = go r.found refl h
      where
        go : (y : Option ℕ) → r.found ≡ y → is_some y ≡ false → FillsBy y n t order c r.used c
        go (Some root) e h = cc
        go None e h = record { exceeds = exceeds f (known None e); kept = refl }

    -- the part of the array that was drawn in
    drawn_is : (rest : List ℕ) → take (length c - 0) (d ++ rest) ≡ d
    drawn_is rest = ap (λ (i : ℕ). take i (d ++ rest)) (sub-zero (length c)) ∙ take_at d rest (length c) drawn_length

    -- its records are put in sequence in the lent cells
    pub end_found : (rest x : List ℕ) → is_some r.found ≡ true → Sequenced n order (take (length c - 0) (d ++ rest)) r.used c x → Fills n t order c r x
    end_found rest x h q = go r.found refl h
      where
        go : (y : Option ℕ) → r.found ≡ y → is_some y ≡ true → FillsBy y n t order c r.used x
        go (Some root) e h = filled f (known (Some root) e) (subst (λ (z : List ℕ). Sequenced n order z r.used c x) (drawn_is rest) q)
        go None e h = cc
