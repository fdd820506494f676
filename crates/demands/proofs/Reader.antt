-- An accepted file: as its records are filed they are a diagram, and what is left in the cells is the drawing of its table.
-- Assumes nothing.
use mathlib.Core.Path.{◌≡◌, refl, sym, ap, ◌∙◌}
use mathlib.Core.Bool.{true}
use mathlib.Core.List.{List, ◌∷◌}
use Prim.Native.Nat.{ℕ, ◌^◌, ◌≤◌}
use native.Mathlib.Omega.{arith}
use borrow.Author.Tests.{eq-eqb}
use lib.ListN.{length, get_or}
use Rattle.rule.specs.Table.{fit_length}
use Rattle.rule.specs.Level.{size}
use Rattle.rule.specs.Order.{places, flags, fit_order}
use Rattle.rule.specs.Cells.{fit_cells, laid_in}
use Rattle.rule.specs.Walk.{table_of}
use Rattle.rule.specs.Diagram.{diagram}
use Rattle.rule.specs.Sequence.{drawing}
use Rattle.rule.specs.Reduced.{DrawnAs}
use Rattle.rule.specs.Results.{root_by}
use Rattle.rule.specs.Reply.{Reply}
use Rattle.rule.specs.Files.{count, Outcome, stop, go, root_read, reading, read_number, read_values, read_cells, records_filed, Reads}
use Rattle.rule.specs.Demands.{StandsFor, Gives}
use Rattle.theory.proofs.Reading.{read_whole, read_stops}
use Rattle.theory.proofs.Orders.{fit_order_is}
use Rattle.theory.proofs.Laying.{laid-length}
use Rattle.theory.proofs.Walks.{smaller, length_table, fit_table}
use Rattle.theory.proofs.Reach.{Diagram, diagram_view, view_diagram, root_by_lem}
use Rattle.theory.proofs.Reduced.{diagram_reduced, drawn_diagram}
use Rattle.theory.proofs.Counting.{used_size}
use Rattle.demands.proofs.Stands.{accepted_reply, IsDrawing, is_drawing_stands}

-- what the records are as filed, and what becomes of the cells
record ReadAs (n nodes root : ℕ) (order file c d : List ℕ) : Type 0 where
  few : n ≤ 10
  ten : length order ≡ places
  order_fits : fit_order n order ≡ true
  lent : fit_cells c ≡ true
  is_diagram : diagram n order (laid_in c (records_filed (reading c file))) nodes root ≡ true
  cells : d ≡ drawing n order (table_of n (laid_in c (records_filed (reading c file))) root) c

module _ (n nodes root : ℕ) (order file c d : List ℕ) (r : Reply) (b : Reads file c r d) (g : Gives r (n ∷ nodes ∷ root ∷ order)) where
  read_as : ReadAs n nodes root order file c d
  read_as = outcome (reading c file) refl (accepted_reply (read_number (reading c file)) b.answer g) b.cells
    where
      outcome : (o : Outcome) → reading c file ≡ o → (read_number o ≡ 0) × (read_values file o ≡ n ∷ nodes ∷ root ∷ order)
          → d ≡ read_cells c file o → ReadAs n nodes root order file c d
      outcome (stop k) is (z, v) e = absurd (omega (arith, read_stops c file k is))
      outcome (go x) is (z, v) e =
          let (f, q) = read_whole c file x is in
          let n-is : n ≡ x.n = cc in
          let nodes_is : nodes ≡ count x = cc in
          let root_is : root ≡ root_read (get_or file 0 0) (count x) = cc in
          let order_is : order ≡ x.places = cc in
          rw (n-is, nodes_is, root_is, order_is)
          (record { few = f.few; ten = f.ten; order_fits = f.order_fits; lent = f.lent; is_diagram = rw is q; cells = rw is e })

  -- the records as they are filed, and their table
  abbrev filed_cells : List ℕ
  filed_cells = laid_in c (records_filed (reading c file))

  abbrev table : List ℕ
  table = table_of n filed_cells root

  whole : Diagram n order filed_cells nodes root
  whole = diagram_view n order filed_cells nodes root read_as.is_diagram

  count_is : nodes ≡ size (flags n order) table
  count_is = used_size whole (fit_order_is n order read_as.order_fits)

  -- the drawing of that table is left
  filed_drawing : IsDrawing n order table nodes root d
  unfolding fit_length
  filed_drawing =
      record {
        fit = record {
          few = read_as.few;
          kept_in = read_as.ten;
          order_fits = read_as.order_fits;
          rows = eq-eqb (length table) (2 ^ n) (length_table n filed_cells root);
          bits = fit_table (smaller whole.cells) n root whole.root_is;
        };
        cells = c;
        lent = read_as.lent;
        space = omega (arith, whole.cells.fits, count_is, laid-length c (records_filed (reading c file)));
        used_is = count_is;
        root_is = root_by_lem whole ∙ ap (λ (k : ℕ). root_by k table) count_is;
        drawn = read_as.cells;
      }

  same_table : table_of n d root ≡ table
  same_table = (is_drawing_stands filed_drawing).drawn.table

  pub read_drawing : IsDrawing n order (table_of n d root) nodes root d
  read_drawing = rw same_table filed_drawing

  pub read : StandsFor n order (table_of n d root) d nodes root
  read = is_drawing_stands read_drawing

  pub read_diagram : (n ≤ 10) × (fit_order n order ≡ true) × (diagram n order d nodes root ≡ true)
  read_diagram = (read_as.few, read_as.order_fits, view_diagram n order d nodes root (drawn_diagram read.drawn))

  -- as they are filed, they draw the same table
  pub filed : DrawnAs n order (table_of n d root) filed_cells nodes root
  filed =
      let (o, q) = diagram_reduced n order filed_cells nodes root whole in
      record { ordered = o; reduced = q; table = sym same_table }
