-- The one sequence of records: what build, pack and the reader leave stands in it, and so it is one for each table and order.
-- Assumes nothing.
use mathlib.Core.Path.{◌≡◌, sym, ap, ◌∙◌}
use mathlib.Core.Bool.{true}
use mathlib.Core.List.{List}
use Prim.Native.Nat.{ℕ, ◌*◌, ◌≤◌}
use native.Mathlib.Omega.{arith}
use lib.ListN.{length, take}
use Rattle.rule.specs.Level.{size}
use Rattle.rule.specs.Order.{flags}
use Rattle.rule.specs.Cells.{width, room}
use Rattle.rule.specs.Reduced.{DrawnAs}
use Rattle.rule.specs.Sequence.{in_sequence, drawing}
use Rattle.rule.specs.Demands.{Fit, Left, built, packed, read, OneSequence}
use Rattle.theory.proofs.Sequence.{same_cells}
use Rattle.theory.proofs.Drawing.{drawing-length, drawn_sequence, drawing_draws}
use Rattle.demands.proofs.Counts.{counts}
use Rattle.demands.proofs.Stands.{IsDrawing, is_drawing_stands, built_drawing, packed-drawing}
use Rattle.demands.proofs.Reader.{read_drawing, filed}

-- whatever draws the table in sequence has the drawing's used cells
only : (n : ℕ) (order t : List ℕ) → Fit n order t → (d : List ℕ) (used root : ℕ) → DrawnAs n order t d used root → in_sequence n order d used ≡ true
    → (c : List ℕ) → used ≤ room c → take (used * width) d ≡ take (used * width) (drawing n order t c)
only n order t f d used root x p c h =
    let e = counts n order t f d used root x in
    let space : size (flags n order) t ≤ room c = omega arith in
    (same_cells n order t f d (drawing n order t c) used root _ _ x (drawing_draws f c space) p (drawn_sequence f c space)).1
    ∙ ap (λ (k : ℕ). take (k * width) (drawing n order t c)) (sym e)

left_drawing : {n used root : ℕ} {order t d : List ℕ} → Left n order t used root d → IsDrawing n order t used root d
left_drawing (built c r l b g) = built_drawing _ _ _ _ _ c _ r l b g
left_drawing (packed c w x r b g) = packed-drawing _ _ _ _ _ c w _ x r b g
left_drawing (read file c r b g e) = rw (sym e) (read_drawing _ _ _ _ file c _ r b g)

pub drawing-in_sequence : {n used root : ℕ} {order t d : List ℕ} → IsDrawing n order t used root d → in_sequence n order d used ≡ true
drawing-in_sequence x = rw (x.used_is, x.drawn) (drawn_sequence x.fit x.cells x.space)

-- cells that are as long have the same drawing
drawing_lent : (n : ℕ) (order t c e : List ℕ) → length c ≡ length e → drawing n order t c ≡ drawing n order t e
unfolding drawing
drawing_lent n order t c e l = rw l

loads : {n used root more top : ℕ} {order t d e : List ℕ} → IsDrawing n order t used root d → IsDrawing n order t more top e
    → (used ≡ more) × (root ≡ top) × (take (used * width) d ≡ take (more * width) e) × (length d ≡ length e → d ≡ e)
loads {n} {used} {root} {more} {top} {order} {t} {d} {e} x y = (
  x.used_is ∙ sym y.used_is,
  x.root_is ∙ sym y.root_is,
  (same_cells n order t x.fit d e used root more top (is_drawing_stands x).drawn (is_drawing_stands y).drawn (drawing-in_sequence x) (drawing-in_sequence y)).1,
  λ l.
      x.drawn
      ∙ drawing_lent n order t x.cells y.cells
      (sym (ap length x.drawn ∙ drawing-length n order t x.cells) ∙ l ∙ ap length y.drawn ∙ drawing-length n order t y.cells)
      ∙ sym y.drawn,
)

pub one_sequence : OneSequence
one_sequence =
    record {
      draws = λ n order t f c h. (drawing_draws f c h, drawn_sequence f c h);
      only = only;
      in_sequence_lem = λ n used root order t d x. drawing-in_sequence (left_drawing x);
      same_loads = λ n used root more top order t d e x y. loads (left_drawing x) (left_drawing y);
      filed = filed;
    }
