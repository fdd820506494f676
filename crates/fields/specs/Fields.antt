-- What all the fields of a file come to.
-- Assumes nothing.
use Rattle.std.specs.Prelude.{List, ℕ, ◌+◌, ◌*◌, ◌≤◌, length, get_or, Result}
use Rattle.rule.specs.Bits.{bit}
use Rattle.rule.specs.Cells.{room}
use Rattle.rule.specs.Files.{flags_bit, order_bit, label_bit, records_bit, record_size, Outcome, and_then, field_if, read_flags, read_order, read_label, read_records}
use Rattle.rule.specs.declared.refusal.Refusal.{Refusal}
use Rattle.cursor.specs.declared.place.Cursor.{Cursor}
use Rattle.cursor.specs.Step.{Comes, map_read}

-- a cursor stands behind the records, within the file; they are in the file, and the cells have room for them
pub record Whole (c file : List ℕ) (x : Cursor) : Type 0 where
  pub few : x.n ≤ 10
  pub reached : x.at ≤ length file
  pub label : x.label + x.size ≤ length file
  pub records : x.records + x.count * record_size ≤ length file
  pub held : x.count ≤ room c

-- a step behind the records
abbrev pub Ends : List ℕ → List ℕ → Outcome → Result Cursor Refusal → Type 0
Ends c file o s = Comes file (Whole c file) o s

-- all fields
unfoldable pub fields_read : List ℕ → List ℕ → Outcome
fields_read c file =
    let map = get_or file 0 0 in
    and_then
    (and_then
    (and_then (and_then (map_read file) (field_if (bit map flags_bit) (read_flags file))) (field_if (bit map order_bit) (read_order file)))
    (field_if (bit map label_bit) (read_label file)))
    (field_if (bit map records_bit) (read_records c file))
