-- What the writer writes the reader reads, and the writer writes again.
-- Assumes nothing.
use mathlib.Core.Path.{◌≡◌, refl, sym, ap, ◌∙◌}
use mathlib.Core.Logic.{◌↔◌}
use mathlib.Core.Bool.{Bool, true, false, not}
use mathlib.Core.List.{List, [], ◌∷◌, ◌++◌}
use Prim.Native.Nat.{ℕ, zero, suc, ◌+◌, ◌≤◌, ◌<◌}
use native.Mathlib.Decide.{dec_lt}
use native.Mathlib.Omega.{arith}
use borrow.Author.Tests.{ltb-false, le-ltb, not-false}
use lib.ListN.{length, get_or, take, drop, length-append}
use lib.Seq.{take_at}
use Rattle.rule.specs.Order.{places}
use Rattle.rule.specs.Cells.{fit_cells, room, laid_in, records_in}
use Rattle.rule.specs.Walk.{table_of}
use Rattle.rule.specs.Diagram.{diagram}
use Rattle.rule.specs.Sequence.{in_sequence, drawing}
use Rattle.rule.specs.Refusals.{refusal}
use Rattle.rule.specs.Reply.{Reply, number_of, leaves}
use Rattle.rule.specs.Files.{longest_label, two, Outcome, go, root_read, reading, read_number, records_filed, Reads, if_some, record_bytes, map_byte, file_of, write_rows, Writes}
use Rattle.rule.specs.Demands.{Gives, WrittenAs, label_read, RuleFiles}
use Rattle.theory.proofs.Bits.{length-below}
use Rattle.theory.specs.Shape.{Shaped}
use Rattle.theory.proofs.Orders.{fit_order_is}
use Rattle.theory.proofs.Walks.{smaller, table_kept}
use Rattle.theory.proofs.Reach.{diagram_view}
use Rattle.theory.proofs.Drawing.{drawing-length, drawing_only}
use Rattle.rule.specs.Cells.{record_in}
use Rattle.laying.proofs.Held.{reading_unfit}
use Rattle.theory.proofs.Laying.{laid-length}
use Rattle.cells.proofs.Laid.{laid_at, laid_same}
use Rattle.encoding.proofs.Puts.{length_records}
use Rattle.theory.proofs.Refused.{passed, none_applies}
use Rattle.demands.proofs.Stands.{accepted_reply, passed_diagram, diagram_passed, IsDrawing}
use Rattle.demands.proofs.Reader.{read_drawing, read_diagram}
use Rattle.demands.proofs.OneSequence.{drawing-in_sequence}
use Rattle.demands.proofs.Canonical.{root_last}
use Rattle.demands.proofs.SameCells.{records_same, sequence_same, diagram_same}
use Rattle.demands.proofs.ReadBack.{Taken, so_far, label_at, root_back, map_is, label_is, reading_back, reading_short}

-- ---- what an accepted write says

record Written (n used root : ℕ) (order c label file : List ℕ) : Type 0 where
  lent : fit_cells c ≡ true
  is_diagram : diagram n order c used root ≡ true
  file_is : file ≡ file_of n order c used root label
  taken : Taken n root order label (records_in c used) file

written : {n used root : ℕ} {order c label file : List ℕ} → length order ≡ places → WrittenAs n used root order c label file
    → Written n used root order c label file
unfolding file_of
written {n} {used} {root} {order} {c} {label} {file} ten w =
    let bytes = w.bytes in
    let whole = file_of n order c used root label in
    let (z, v) = accepted_reply (refusal (write_rows n order c used root label bytes)) w.writes.answer w.handed_back in
    let (few, (o, (f, (q, (m, (s, (p, _))))))) = passed (write_rows n order c used root label bytes) refl z in
    let long : length whole ≡ length file = cc in
    let left : w.after ≡ whole ++ drop (length whole) bytes =
    w.writes.bytes_are ∙ ap (λ (k : ℕ). leaves k (whole ++ drop (length whole) bytes) bytes) z in
    let is : file ≡ whole = sym w.file_is ∙ ap (take (length file)) left ∙ take_at whole (drop (length whole) bytes) (length file) long in
    record {
      lent = not-false _ f;
      is_diagram = passed_diagram n used root order c (few, (o, (f, (q, (m, tt)))));
      file_is = is;
      taken =
          record {
            few = ltb-false 10 n few;
            ten = ten;
            fit = not-false _ o;
            short = ltb-false longest_label (length label) s;
            print = not-false _ p;
            bytes = rw (length-below (record_in c) used) is;
          };
    }

-- ---- how long a file is

-- the records' sequence has no part in it
file_length : (n used root : ℕ) (order c d label : List ℕ) → length (file_of n order c used root label) ≡ length (file_of n order d used root label)
unfolding file_of
file_length n used root order c d label = simp length-append (omega (arith, field used))
  where
    field : (k : ℕ) → length (if_some k (two k ++ record_bytes (records_in c k))) ≡ length (if_some k (two k ++ record_bytes (records_in d k)))
    field zero = refl
    field (suc k) = omega (arith, length_records c (suc k), length_records d (suc k))

-- ---- read into cells that hold the records

module _ {n used root : ℕ} {order c label file : List ℕ} (x : Written n used root order c label file) where
  long : length (records_in c used) ≡ used
  long = length-below (record_in c) used

  cells_sound : Shaped n order c used
  cells_sound = (diagram_view n order c used root x.is_diagram).cells

  module _ {cells d : List ℕ} {r : Reply} (b : Reads file cells r d) (lent : fit_cells cells ≡ true) (held : used ≤ room cells) where
    laid_as : (i : ℕ) → get_or (laid_in cells (records_in c used)) i 0 ≡ get_or c i 0
    laid_as = laid_at c used cells_sound.fits cells_sound.clear cells held

    laid_long : length (laid_in cells (records_in c used)) ≡ length cells
    laid_long = laid-length cells (records_in c used)

    laid_diagram : diagram n order (laid_in cells (records_in c used)) used root ≡ true
    laid_diagram = diagram_same c (laid_in cells (records_in c used)) laid_as n order used root (rw laid_long held) x.is_diagram

    root_is : root_read (map_byte label used root) used ≡ root
    root_is = root_back label used root (root_last n used root order c x.is_diagram)

    read_as : reading cells file ≡ go (so_far n order (label_at (2 + n) label) (records_in c used) (length file))
    read_as = reading_back x.taken cells lent (rw long held) (rw (long, root_is) laid_diagram)

    values_back : Gives r (n ∷ used ∷ root ∷ order)
    values_back = b.answer ∙ rw (read_as, long, map_is x.taken, long, root_is)

    label_back : label_read cells file ≡ label
    label_back = rw read_as (label_is x.taken)

    -- as filed they stand for the writer's table
    same_table : table_of n (laid_in cells (records_in c used)) root ≡ table_of n c root
    same_table =
        let d = diagram_view n order c used root x.is_diagram in
        sym (table_kept c (laid_in cells (records_in c used)) used (λ i h. sym (laid_as i)) (smaller cells_sound) n root d.root_is)

    cells_back : d ≡ drawing n order (table_of n c root) cells
    cells_back = b.cells ∙ rw (read_as, long, map_is x.taken, long, root_is, same_table)

    -- ---- the sequence

    left_drawing : IsDrawing n order (table_of n d root) used root d
    left_drawing = read_drawing n used root order file cells d r b values_back

    left_sequence : in_sequence n order d used ≡ true
    left_sequence = drawing-in_sequence left_drawing

    -- where the writer's records stood in sequence, they are left
    laid_back : in_sequence n order c used ≡ true → d ≡ laid_in cells (records_in c used)
    laid_back p =
        cells_back
        ∙ sym (drawing_only (diagram_view n order (laid_in cells (records_in c used)) used root laid_diagram) (fit_order_is n order x.taken.fit)
        (table_of n c root) cells same_table
        (sequence_same c (laid_in cells (records_in c used)) laid_as n order used ∙ p) laid_long)

    back_long : length d ≡ length cells
    back_long = ap length cells_back ∙ drawing-length n order (table_of n c root) cells

    -- ---- and written again

    as_long : length (file_of n order d used root label) ≡ length file
    as_long = file_length n used root order d c label ∙ ap length (sym x.file_is)

    -- no row of the writer applies
    none_again : (bytes : List ℕ) → length file ≤ length bytes → refusal (write_rows n order d used root label bytes) ≡ 0
    unfolding fit_cells
    none_again bytes h =
        let t = x.taken in
        let (few, (o, (f, (q, (m, _))))) =
        diagram_passed n used root order d t.few t.fit (rw back_long lent) (read_diagram n used root order file cells d r b values_back).2 in
        let enough : length (file_of n order d used root label) ≤ length bytes = omega (arith, as_long) in
        none_applies (write_rows n order d used root label bytes)
        (few, (o, (f, (q, (m, (le-ltb longest_label (length label) t.short, (ap not t.print, (le-ltb (length bytes) _ enough, tt))))))))

    -- the bytes are those of what was left
    left_bytes : (bytes after : List ℕ) (q : Reply) → length file ≤ length bytes → Writes n order d used root label bytes q after
        → Gives q (length file ∷ []) × (take (length file) after ≡ file_of n order d used root label)
    left_bytes bytes after q h w = (
      w.answer ∙ rw (none_again bytes h, as_long),
      ap (take (length file)) (w.bytes_are ∙ rw (none_again bytes h))
          ∙ take_at (file_of n order d used root label) (drop (length (file_of n order d used root label)) bytes) (length file) as_long,
    )

    -- the same bytes where the writer's records stood in sequence
    same_bytes : in_sequence n order c used ≡ true → file_of n order d used root label ≡ file
    unfolding file_of
    same_bytes p = rw (laid_back p, records_same c (laid_in cells (records_in c used)) laid_as used) (sym x.file_is)

    -- and only there: the reader tells the records by the bytes
    bytes_same : file_of n order d used root label ≡ file → in_sequence n order c used ≡ true
    unfolding file_of
    bytes_same e =
        let t = x.taken in
        let is : diagram n order d used root ≡ true = (read_diagram n used root order file cells d r b values_back).2 in
        let s : Shaped n order d used = (diagram_view n order d used root is).cells in
        let many : length (records_in d used) ≡ used = length-below (record_in d) used in
        let laid : laid_in cells (records_in d used) ≡ d = laid_same d used s.fits s.clear cells held (sym back_long) in
        let own : Taken n root order label (records_in d used) file =
        record { few = t.few; ten = t.ten; fit = t.fit; short = t.short; print = t.print; bytes = rw many (sym e) } in
        let read : reading cells file ≡ go (so_far n order (label_at (2 + n) label) (records_in d used) (length file)) =
        reading_back own cells lent (rw many held) (rw (many, root_is, laid) is) in
        let same : laid_in cells (records_in c used) ≡ d = ap (λ (o : Outcome). laid_in cells (records_filed o)) (sym read_as ∙ read) ∙ laid in
        sym (sequence_same c (laid_in cells (records_in c used)) laid_as n order used) ∙ rw same left_sequence

    written_again : (bytes after : List ℕ) (q : Reply) → length file ≤ length bytes → Writes n order d used root label bytes q after
        → Gives q (length file ∷ []) × ((take (length file) after ≡ file) ↔ (in_sequence n order c used ≡ true))
    written_again bytes after q h w =
        let (g, e) = left_bytes bytes after q h w in
        (g, (λ k. bytes_same (sym e ∙ k), λ p. e ∙ same_bytes p))

  -- ---- which cells hold them

  -- as many as the writer's
  module _ (cells : List ℕ) (e : length cells ≡ length c) where
    same_lent : fit_cells cells ≡ true
    unfolding fit_cells
    same_lent = rw e x.lent

    same_held : used ≤ room cells
    same_held = rw e cells_sound.fits

  -- those into which the file is read
  read_held : {cells d : List ℕ} {r : Reply} {values : List ℕ} → Reads file cells r d → Gives r values → (fit_cells cells ≡ true) × (used ≤ room cells)
  read_held {cells} b g = by (fit_cells cells) refl (dec_lt (room cells) used) (accepted_reply (read_number (reading cells file)) b.answer g).0
    where
      by : (a : Bool) → fit_cells cells ≡ a → Dec (room cells < used) → read_number (reading cells file) ≡ 0 → (fit_cells cells ≡ true) × (used ≤ room cells)
      by false e h z = let q = ap read_number (reading_unfit cells file (sym e) refl) in absurd (omega arith)
      by true e (yes h) z = let q = ap read_number (reading_short x.taken cells e (rw long h)) in absurd (omega arith)
      by true e (no h) z = (e, omega arith)

  room_is : {cells d : List ℕ} {r : Reply} → Reads file cells r d → fit_cells cells ≡ true → (number_of r ≡ 10) ↔ (room cells < used)
  room_is {cells} {r = r} b lent = (by (dec_lt (room cells) used), λ h. ap number_of b.answer ∙ rw (reading_short x.taken cells lent (rw long h)))
    where
      by : Dec (room cells < used) → number_of r ≡ 10 → room cells < used
      by (yes h) e = h
      by (no h) e = let q = ap number_of (values_back b lent (omega arith)) in absurd (omega arith)

-- ---- what the reader took from a written file, written again

again : {n used root n' used' root' : ℕ} {order c label file cells d order' bytes after : List ℕ} {r q : Reply} → length order ≡ places
    → WrittenAs n used root order c label file → Reads file cells r d → Gives r (n' ∷ used' ∷ root' ∷ order')
    → length file ≤ length bytes → Writes n' order' d used' root' (label_read cells file) bytes q after
    → Gives q (length file ∷ []) × ((take (length file) after ≡ file) ↔ (in_sequence n order c used ≡ true))
again {n} {used} {root} {n'} {used'} {root'} {order} {order' = order'} {bytes} {after} {q = q} ten w b g h v =
    let x = written ten w in
    let (lent, held) = read_held x b g in
    let e = values_back x b lent held in
    let n-is : n' ≡ n = cc in
    let used_is : used' ≡ used = cc in
    let root_is : root' ≡ root = cc in
    let order_is : order' ≡ order = cc in
    written_again x b lent held bytes after q h (rw (n-is, used_is, root_is, order_is, label_back x b lent held) at v)

-- ---- the theorem

pub rule_files : RuleFiles
rule_files =
    record {
      is_diagram = read_diagram;
      read_back = λ n used root order c label file cells d r ten w lent held b.
          let x = written ten w in
          (values_back x b lent held, label_back x b lent held, cells_back x b lent held, laid_back x b lent held);
      same_cells = λ n used root order c label file cells d r ten w e b.
          let x = written ten w in
          let s = cells_sound x in
          let lent = same_lent x cells e in
          let held = same_held x cells e in (
            values_back x b lent held,
            label_back x b lent held,
            (
              λ q. rw q at (left_sequence x b lent held),
              λ p. laid_back x b lent held p ∙ laid_same c used s.fits s.clear cells held e,
            ),
          );
      no_room = λ n used root order c label file cells d r ten w lent b. room_is (written ten w) b lent;
      again = λ n used root n' used' root' order c label file cells d order' bytes after r q ten w b g h v. again ten w b g h v;
      settled = λ n used root n' used' root' order file c d label written cells e order' bytes after r p q b g w k j h v.
          let x = read_drawing n used root order file c d r b g in
          let (a, z) = again x.fit.kept_in w k j h v in
          (a, z.1 (drawing-in_sequence x));
    }
