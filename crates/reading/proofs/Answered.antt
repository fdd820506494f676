-- What the calls answer of a file that is read and tested aside.
-- Assumes nothing.
use mathlib.Core.Path.{◌≡◌, sym, ap, ◌∙◌}
use mathlib.Core.Bool.{true}
use mathlib.Core.List.{List, ◌∷◌}
use Prim.Native.Nat.{ℕ}
use native.Mathlib.Omega.{arith}
use lib.ListN.{length, get_or}
use Rattle.rule.specs.Cells.{laid_in}
use Rattle.rule.specs.Diagram.{diagram}
use Rattle.rule.specs.Reply.{accepted}
use Rattle.rule.specs.Files.{record_at, go, root_read, reading, Reads}
use Rattle.theory.proofs.Reading.{Whole, read_whole}
use Rattle.theory.proofs.Laying.{laid-length}
use Rattle.theory.proofs.Reach.{diagram_view}
use Rattle.theory.proofs.Bits.{length-below}
use Rattle.cursor.specs.declared.place.Cursor.{Cursor}
use Rattle.cursor.specs.Step.{reading_of}
use Rattle.cells.proofs.Fit.{fit_length_lem}
use Rattle.sequencing.specs.Move.{Moves, Sequenced}

module _ (c file : List ℕ) (x : Cursor) (e : go (reading_of file x) ≡ reading c file) where
  whole : Whole c file (reading_of file x)
  whole = read_whole c file (reading_of file x) (sym e)

  many : length (reading_of file x).records ≡ x.count
  many = length-below (record_at file x.records) x.count

  -- held is what was laid aside
  module _ {held : List ℕ} (part : held ≡ laid_in c (reading_of file x).records) where
    is_diagram : diagram x.n x.order.places held x.count (root_read (get_or file 0 0) x.count) ≡ true
    is_diagram = rw part (rw many at whole.1)

    -- can be put in sequence in the lent cells
    pub in_turn_lem : Moves x.n x.order.places held x.count × (length c ≡ length held)
    in_turn_lem =
        let lent : length held ≡ length c = ap length part ∙ laid-length c (reading_of file x).records in (
          record {
            few = whole.0.few;
            order_fits = whole.0.order_fits;
            shape = (diagram_view _ _ _ _ _ is_diagram).cells;
            most = omega (arith, fit_length_lem c whole.0.lent);
          },
          sym lent,
        )

    pub read_accepted : {m root : ℕ} → m ≡ get_or file 0 0 → root ≡ root_read m x.count → {d : List ℕ}
        → Sequenced x.n x.order.places held x.count c d
        → Reads file c (accepted (x.n ∷ x.count ∷ root ∷ x.order.places)) d
    read_accepted p q f =
        record {
          answer = rw (← e, many, ← p, ← q);
          cells = f (root_read (get_or file 0 0) x.count) is_diagram ∙ rw (← e, part, many);
        }
