-- A whole drawing from cleared cells: it is the diagram of the table, or the table's diagram has more nodes than there is room for.
-- Assumes nothing.
use mathlib.Core.Path.{◌≡◌, refl, sym, ap, subst, ◌∙◌}
use mathlib.Core.List.{List}
use Prim.Native.Nat.{ℕ, ◌+◌, ◌<◌}
use native.Mathlib.Omega.{arith}
use lib.ListN.{length, replicate, length-replicate}
use lib.Pow.{pow_pos}
use Rattle.rule.specs.Level.{nodes_of, size}
use Rattle.rule.specs.Order.{flags}
use Rattle.rule.specs.Cells.{room}
use Rattle.rule.specs.Walk.{table_of}
use Rattle.rule.specs.Sequence.{drawing}
use Rattle.theory.proofs.Member.{In}
use Rattle.theory.proofs.Sets.{Order}
use Rattle.theory.proofs.Orders.{fit_order_is}
use Rattle.theory.proofs.Shape.{shape_cleared}
use Rattle.theory.proofs.Sound.{sound_cleared}
use Rattle.theory.proofs.Reach.{Diagram, view_diagram, root_by_lem}
use Rattle.theory.proofs.Counting.{node_reached, used_size}
use Rattle.theory.proofs.Needed.{needed_size}
use Rattle.std.specs.Prelude.{None}
use Rattle.unique.specs.Node.{grown}
use Rattle.unique.specs.Search.{Grew}
use Rattle.unique.proofs.Settled.{unsettled}
use Rattle.sequencing.specs.Move.{Sequenced}
use Rattle.drawing.specs.Draw.{Drawing}
use Rattle.building.specs.Fill.{Fits, Filled}

-- what drawing is given at the root
pub start : {n : ℕ} {t order c : List ℕ} → Fits n t order c → Drawing n t order 0 0 (replicate (length c) 0) 0
start {n} {t} {order} {c} f =
    record {
      few = f.few;
      rows = f.rows;
      bits = f.bits;
      order_fits = f.order_fits;
      level = omega arith;
      row_fits = pow_pos n;
      is_sound = sound_cleared n order (length c);
      small = omega (arith, f.lent, length-replicate {A = ℕ} (length c) 0);
    }

module _ {n : ℕ} {t order c : List ℕ} (f : Fits n t order c) where
  ord : Order n (flags n order)
  ord = fit_order_is n order f.order_fits

  module _ {used root : ℕ} {d : List ℕ} (a : Grew n order (nodes_of (flags n order) t) 0 t (replicate (length c) 0) 0 (grown used root) d) where
    whole : Diagram n order d used root
    whole =
        record {
          cells = a.grows.is_sound;
          root_is = a.is.node;
          reached = λ k h.
              node_reached a.grows.is_sound ord k root h a.is.node
              (subst (λ (u : List ℕ). In (table_of n d (k + 2)) (nodes_of (flags n order) u)) (sym a.is.table) (a.grows.within k (omega arith) h));
        }

    count : used ≡ size (flags n order) t
    count = used_size whole ord ∙ ap (size (flags n order)) a.is.table

    -- put in sequence in the lent cells, it is the table's drawing
    pub filled : {x : List ℕ} → Sequenced n order d used c x → Filled n t order c used root x
    filled s =
        record {
          count = count;
          root_is = root_by_lem whole ∙ rw (a.is.table, count);
          fits = omega (arith, count, a.grows.is_sound.fits, a.grows.lent, length-replicate {A = ℕ} (length c) 0);
          drawn = s root (view_diagram n order d used root whole) ∙ ap (λ (u : List ℕ). drawing n order u c) a.is.table;
        }

  -- the table's diagram needs more records than there is room for
  module _ {used : ℕ} {d : List ℕ} (a : Grew n order (nodes_of (flags n order) t) 0 t (replicate (length c) 0) 0 (record { used = used; found = None }) d) where
    pub exceeds : room c < size (flags n order) t
    exceeds =
        omega (
          arith,
          (unsettled (record { n = n; places = order; used = 0 }) (shape_cleared n order (length c)) ord a refl).exceeds,
          needed_size n order (replicate (length c) 0) 0 t,
          length-replicate {A = ℕ} (length c) 0,
        )
