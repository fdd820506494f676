-- What the reader's cursor stands for: an outcome of Files.antt.
-- Assumes nothing.
use Rattle.std.specs.Prelude.{◌≡◌, List, [], ◌∷◌, map, ℕ, ◌+◌, ◌≤◌, length, get_or, Result, Ok, Err, IfOk}
use Rattle.rule.specs.Bits.{below}
use Rattle.rule.specs.Order.{rising}
use Rattle.rule.specs.Answers.{refusal_number}
use Rattle.rule.specs.declared.refusal.Refusal.{Refusal}
use Rattle.rule.specs.Files.{Reading, Outcome, stop, go, unless, nothing_read, past_end, file_map, record_at}
use Rattle.cursor.specs.declared.place.Cursor.{Cursor}

-- the bit map is read, and no field yet: what absent fields mean
abbrev pub start : Cursor
start = record { n = 0; order = record { places = rising 0 }; label = 0; size = 0; records = 0; count = 0; at = 1 }

-- what a file says up to a cursor
abbrev pub reading_of : List ℕ → Cursor → Reading
reading_of file x =
    record {
      n = x.n;
      places = x.order.places;
      label = record { start = x.label; size = x.size };
      records = map (record_at file x.records) (below x.count);
      at = x.at;
    }

-- a step of the reader: a file read on, or why it is refused
abbrev pub outcome_of : List ℕ → Result Cursor Refusal → Outcome
outcome_of file (Ok x) = go (reading_of file x)
outcome_of file (Err k) = stop (refusal_number k)

-- the cursor stands before the records, within the file
pub record Before (file : List ℕ) (x : Cursor) : Type 0 where
  pub few : x.n ≤ 10
  pub reached : x.at ≤ length file
  pub label : x.label + x.size ≤ length file
  pub start : x.records ≡ 0
  pub none : x.count ≡ 0

-- a step is this outcome, and where it is not refused its cursor stands so
pub record Comes (file : List ℕ) (Stands : Cursor → Type 0) (o : Outcome) (s : Result Cursor Refusal) : Type 0 where
  pub is : outcome_of file s ≡ o
  pub stands : IfOk s Stands

-- a step before the records
abbrev pub Leads : List ℕ → Outcome → Result Cursor Refusal → Type 0
Leads file o s = Comes file (Before file) o s

-- the bit map, of a file that is to be read into cells of a fit length
unfoldable pub map_read : List ℕ → Outcome
map_read file = unless (past_end file 1 ∷ file_map (get_or file 0 0) ∷ []) nothing_read
