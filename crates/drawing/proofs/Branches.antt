-- The rules of a drawing: at a leaf every flag is fixed, and before that the rule is split by the next flag of the order into those of its two branches.
-- Assumes nothing.
use mathlib.Core.Path.{◌≡◌, refl, sym, ap, ap₂, ◌∙◌}
use mathlib.Core.List.{List}
use Prim.Native.Nat.{ℕ, ◌+◌, ◌≤◌, ◌<◌}
use native.Mathlib.Omega.{arith}
use lib.ListN.{length, get_or, take}
use lib.Seq.{take_all}
use Rattle.rule.specs.Bits.{set_bit}
use Rattle.rule.specs.Table.{cofactor, restrict}
use Rattle.rule.specs.Level.{nodes_of}
use Rattle.rule.specs.Order.{flags, level}
use Rattle.rule.specs.Walk.{table_of}
use Rattle.theory.proofs.Bits.{bit-same, bit_other, set_bit_lt}
use Rattle.theory.proofs.Cofactor.{row_lt}
use Rattle.theory.proofs.Sets.{Order}
use Rattle.theory.proofs.Orders.{order_length, fit_order_is}
use Rattle.theory.proofs.Perm.{Exactly}
use Rattle.theory.proofs.Levels.{place_flag, place_level, place_before, place_next}
use Rattle.theory.specs.Shape.{Shaped}
use Rattle.theory.proofs.Sound.{sound_shape, shape_sound}
use Rattle.theory.proofs.Walks.{walk_end, length_table, table_row, rows_eq}
use Rattle.theory.proofs.Canonical.{level_end}
use Rattle.theory.proofs.Nodes.{fixings_free}
use Rattle.theory.proofs.Restrict.{length-restrict, restrict_in, restrict_snoc, restrict-agree, restrict_all}
use Rattle.theory.proofs.Growth.{grows_none}
use Rattle.unique.specs.declared.node.Grown.{Grown}
use Rattle.unique.specs.Node.{grown}
use Rattle.unique.proofs.Branches.{Split}
use Rattle.drawing.specs.Draw.{Drawing, Draw}

module _ {n at row used : ℕ} {t order c : List ℕ} (g : Drawing n t order at row c used) where
  ord : Order n (flags n order)
  ord = fit_order_is n order g.order_fits

  -- every flag is fixed: an end node
  pub leaf : n ≤ at → Draw n t order at row c used (grown used (get_or t row 0)) c
  leaf h =
      let v = row_lt t g.bits row in
      let whole : take at (flags n order) ≡ flags n order = take_all at (flags n order) (omega (arith, order_length n (flags n order) ord)) in
      record {
        grows = grows_none (nodes_of (flags n order) (restrict (take at (flags n order)) row t)) (sound_shape n order c used g.is_sound);
        is = record {
          node = omega arith;
          table = rw whole
              (rows_eq n (table_of n c (get_or t row 0)) (restrict (flags n order) row t) (length_table n c (get_or t row 0))
              (length-restrict (flags n order) row t ∙ g.rows)
              (λ r l.
              table_row n c (get_or t row 0) r l
              ∙ walk_end c (get_or t row 0) r v
              ∙ sym (restrict_all n (flags n order) row t g.rows ord.sound ord.whole g.row_fits r l)));
          later = omega (arith, g.level, level_end n order c (get_or t row 0) v);
        };
      }

  module _ (h : at < n) where
    pub flag_lt : get_or order at 0 < n
    flag_lt = place_flag order ord h

    -- the flags that are fixed are those of the levels before
    fixed : Exactly (λ (i : ℕ). (i < n) × (level (flags n order) i < at)) (take at (flags n order))
    fixed = place_before order ord h

    -- so the rule that is left ignores them
    pub split : Split n order at (get_or order at 0) (restrict (take at (flags n order)) row t)
    split =
        record {
          is_order = ord;
          rows = length-restrict (take at (flags n order)) row t ∙ g.rows;
          ignores = λ i i<n l.
              fixings_free n i (take at (flags n order)) t g.rows (λ j m. (fixed.sound j m).0) (fixed.whole i (i<n, l))
              (restrict_in (take at (flags n order)) row t);
          flag = flag_lt;
          place = place_level order ord h;
        }

    -- the rule of a branch is the rule's cofactor
    pub branch_rule : (b x : ℕ) → b < 2 → x ≡ set_bit row (get_or order at 0) b
        → restrict (take (at + 1) (flags n order)) x t ≡ cofactor (get_or order at 0) b (restrict (take at (flags n order)) row t)
    branch_rule b x k e =
        ap₂ (λ (l : List ℕ) (y : ℕ). restrict l y t) (place_next order ord h) e
        ∙ restrict_snoc (take at (flags n order)) (get_or order at 0) (set_bit row (get_or order at 0) b) t
        ∙ ap (λ (y : ℕ). cofactor (get_or order at 0) y (restrict (take at (flags n order)) (set_bit row (get_or order at 0) b) t)) (bit-same row (get_or order at 0) b k)
        ∙ ap (cofactor (get_or order at 0) b)
        (restrict-agree (take at (flags n order)) (set_bit row (get_or order at 0) b) row t
        (λ i m. bit_other row (get_or order at 0) i b k (λ q. omega (arith, place_level order ord h, (fixed.sound i m).1, ap (level (flags n order)) q))))

    -- what a branch is given, in the cells as they have grown
    branch_drawing : (b x : ℕ) → b < 2 → x ≡ set_bit row (get_or order at 0) b → {d : List ℕ} {more : ℕ} → length d ≡ length c → Shaped n order d more
        → Drawing n t order (at + 1) x d more
    branch_drawing b x k e {d} {more} l s =
        record {
          few = g.few;
          rows = g.rows;
          bits = g.bits;
          order_fits = g.order_fits;
          level = omega arith;
          row_fits = rw e (set_bit_lt n row (get_or order at 0) b g.row_fits flag_lt k);
          is_sound = shape_sound n order d more s;
          small = omega (arith, g.small);
        }

    pub first : (x : ℕ) → x ≡ set_bit row (get_or order at 0) 0 → Drawing n t order (at + 1) x c used
    first x e = branch_drawing 0 x (omega arith) e refl (sound_shape n order c used g.is_sound)

    pub second : (x y : ℕ) → y ≡ set_bit row (get_or order at 0) 1 → {r : Grown} {d : List ℕ} → Draw n t order (at + 1) x c used r d
        → Drawing n t order (at + 1) y d r.used
    second x y e a = branch_drawing 1 y (omega arith) e a.grows.lent a.grows.is_sound
