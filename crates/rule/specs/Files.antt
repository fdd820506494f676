-- Rule files, read and written (document 01, "Rule files" and the reader's sequence of "Refused, by where it is found"; document 02, requests 1 and 3). A file
-- is the list of its bytes.
-- Assumes nothing.
use Rattle.std.specs.Prelude.{◌≡◌, Bool, cond, not, ◌&&◌, ◌||◌, ℕ, zero, suc, ◌+◌, ◌*◌, ◌/◌, ◌%◌, ◌^◌, eqb, leb, ltb, length, get_or, take, drop, replicate}
use mathlib.Core.List.{List, [], ◌∷◌, ◌++◌, map, flat_map}
use Rattle.std.specs.Borrow.{Bor}
use Rattle.rule.specs.Bits.{bit, below}
use Rattle.rule.specs.Tests.{each}
use Rattle.rule.specs.Order.{flags, in_places, rising}
use Rattle.rule.specs.Cells.{room, RecordValues, laid_in, records_in}
use Rattle.rule.specs.Walk.{table_of}
use Rattle.rule.specs.Diagram.{diagram}
use Rattle.rule.specs.Sequence.{drawing}
use Rattle.rule.specs.Refusals.{Row, refusal, flag_count, order_places, cells, diagram_records, node, result}
use Rattle.rule.specs.Reply.{Reply, reply, WritesRun}

-- ---- what a file is made of

-- the bits of the map: "Bit 0: n", "Bit 1: the order", "Bit 2: label", "Bit 3: record count", "Bit 4: .. root is node 1"
abbrev pub flags_bit : ℕ
flags_bit = 0

abbrev pub order_bit : ℕ
order_bit = 1

abbrev pub label_bit : ℕ
label_bit = 2

abbrev pub records_bit : ℕ
records_bit = 3

abbrev pub yes_bit : ℕ
yes_bit = 4

-- a map of this number or above has one of "bits 5 to 7"
abbrev pub map_end : ℕ
map_end = 32

-- request 1: "the longest label in any file of ours has exactly 31. That becomes the limit for reader and writer in place of 255."
abbrev pub longest_label : ℕ
longest_label = 31

-- "record count, two bytes", "then five bytes each"
abbrev pub count_size : ℕ
count_size = 2

abbrev pub record_size : ℕ
record_size = 5

-- "two bytes, low byte first"
abbrev pub two : ℕ → List ℕ
two x = x % 256 ∷ x / 256 ∷ []

abbrev pub two_at : List ℕ → ℕ → ℕ
two_at bytes i = get_or bytes i 0 + 256 * get_or bytes (i + 1) 0

-- "five bytes each: flag, low (two), high (two), low byte first": a record's bytes, and record k of those that start at a place of the file
abbrev pub in_bytes : RecordValues → List ℕ
in_bytes r = r.flag ∷ two r.low ++ two r.high

abbrev pub record_at : List ℕ → ℕ → ℕ → RecordValues
record_at file start k =
    let at = start + k * record_size in
    record { flag = get_or file at 0; low = two_at file (at + 1); high = two_at file (at + 3) }

-- a part of a file: so many bytes from its start on
pub record Part : Type 0 where
  pub start : ℕ
  pub size : ℕ

abbrev pub bytes_of : Part → List ℕ → List ℕ
bytes_of p file = take p.size (drop p.start file)

-- ---- the rows of the refusal table that only files meet

-- "a field runs past the end": the field ends at this place
abbrev pub past_end : List ℕ → ℕ → Row
past_end file end = (ltb (length file) end, 11)

-- "bytes follow the last": the last field ends at this place
abbrev pub left_over : List ℕ → ℕ → Row
left_over file end = (ltb end (length file), 11)

-- "bits 5 to 7, or bits 3 and 4 together"
abbrev pub file_map : ℕ → Row
file_map map = (leb map_end map || (eqb (bit map records_bit) 1 && eqb (bit map yes_bit) 1), 12)

-- "length 0"
abbrev pub empty_label : ℕ → Row
empty_label size = (eqb size 0, 13)

-- request 1: "Refusal 13 covers a length above 31, found at the length byte and so ahead of the label's own bytes"; and with this limit document 01's "for the
-- writer a label above .. bytes"
abbrev pub long_label : ℕ → Row
long_label size = (ltb longest_label size, 13)

-- "bytes 20 to 7E", hexadecimal
abbrev pub printable : ℕ → Bool
printable b = leb 0x20 b && leb b 0x7E

-- "a byte outside 20 to 7E"
abbrev pub label_bytes : List ℕ → Row
label_bytes l = (not (each printable l), 13)

-- "a file's count of 0"
abbrev pub count_of0 : ℕ → Row
count_of0 count = (eqb count 0, 6)

-- ---- the reader

-- a file read so far: what it says, and the place up to which it is read
pub record Reading : Type 0 where
  pub n : ℕ
  pub places : List ℕ
  pub label : Part
  pub records : List RecordValues
  pub at : ℕ

-- the record count
abbrev pub count : Reading → ℕ
count x = length x.records

-- refused under a number, or read on
pub data Outcome : Type 0 where
  stop : ℕ → Outcome
  go : Reading → Outcome

-- read on by the next field, unless refused already
abbrev pub and_then : Outcome → (Reading → Outcome) → Outcome
and_then (stop k) next = stop k
and_then (go x) next = next x

abbrev pub read_or : ℕ → Reading → Outcome
read_or zero x = go x
read_or (suc k) x = stop (suc k)

-- refused by the first of these rows that applies; where none does, this is read
unfoldable pub unless : List Row → Reading → Outcome
unless rows x = read_or (refusal rows) x

-- "fields follow in bit order, only where the bit stands"
abbrev pub field_if : ℕ → (Reading → Outcome) → Reading → Outcome
field_if zero field x = go x
field_if (suc b) field x = field x

-- an empty part
abbrev pub no_part : Part
no_part = record { start = 0; size = 0 }

-- the bit map alone is read, and fields that are absent mean: "Bit 0: .. Absent: 0. Bit 1: .. Absent: rising. Bit 2: .. Absent: no label.", and no records
abbrev pub nothing_read : Reading
nothing_read = record { n = 0; places = rising 0; label = no_part; records = []; at = 1 }

-- "The reader tests 5, then the file from left to right". "The first byte is a bit map"
unfoldable pub read_map : List ℕ → List ℕ → Outcome
read_map c file = unless (cells c ∷ past_end file 1 ∷ file_map (get_or file 0 0) ∷ []) nothing_read

-- "Bit 0: n, one byte." Where bit 1 is absent the order is the rising one of these flags.
unfoldable pub read_flags : List ℕ → Reading → Outcome
read_flags file x =
    let n = get_or file x.at 0 in
    unless (past_end file (x.at + 1) ∷ flag_count n ∷ [])
    (record { n = n; places = rising n; label = x.label; records = x.records; at = x.at + 1 })

-- "Bit 1: the order, n bytes."
unfoldable pub read_order : List ℕ → Reading → Outcome
read_order file x =
    let order = in_places (take x.n (drop x.at file)) in
    unless (past_end file (x.at + x.n) ∷ order_places x.n order ∷ [])
    (record { n = x.n; places = order; label = x.label; records = x.records; at = x.at + x.n })

-- "Bit 2: label, a length byte", from 1 to `longest_label`, "then bytes 20 to 7E." "The label's length byte and the record count are fields of their own"
unfoldable pub read_label : List ℕ → Reading → Outcome
read_label file x =
    let label : Part = record { start = x.at + 1; size = get_or file x.at 0 } in
    let end = label.start + label.size in
    unless (past_end file label.start ∷ empty_label label.size ∷ long_label label.size ∷ past_end file end ∷ label_bytes (bytes_of label file) ∷ [])
    (record { n = x.n; places = x.places; label = label; records = x.records; at = end })

-- "Bit 3: record count, two bytes, low byte first, at least 1; then five bytes each". "a count gives 6 for 0, then 10, the records needed being that count",
-- and the lent cells "all of which are free"
unfoldable pub read_records : List ℕ → List ℕ → Reading → Outcome
read_records c file x =
    let count = two_at file x.at in
    let start = x.at + count_size in
    let end = start + count * record_size in
    unless (past_end file start ∷ count_of0 count ∷ result count (room c) ∷ past_end file end ∷ [])
    (record { n = x.n; places = x.places; label = x.label; records = map (record_at file start) (below count); at = end })

-- "Bit 4: no bytes; root is node 1. Without bits 3 and 4 the root is node 0." With records the root is the last of them.
abbrev pub root_read : ℕ → ℕ → ℕ
root_read map zero = bit map yes_bit
root_read map (suc k) = suc k + 1

-- "then 11 for bytes left over, then 6 for the records": so laid, they are a diagram or not
unfoldable pub read_end : List ℕ → List ℕ → Reading → Outcome
read_end c file x =
    let root = root_read (get_or file 0 0) (count x) in
    unless (left_over file x.at ∷ (not (diagram x.n x.places (laid_in c x.records) (count x) root), 6) ∷ []) x

-- the whole file
unfoldable pub reading : List ℕ → List ℕ → Outcome
reading c file =
    let map = get_or file 0 0 in
    and_then (read_map c file) λ x.
    and_then (field_if (bit map flags_bit) (read_flags file) x) λ x.
    and_then (field_if (bit map order_bit) (read_order file) x) λ x.
    and_then (field_if (bit map label_bit) (read_label file) x) λ x.
    and_then (field_if (bit map records_bit) (read_records c file) x) λ x. read_end c file x

abbrev pub read_number : Outcome → ℕ
read_number (stop k) = k
read_number (go x) = 0

-- "it hands back n, the order, the record count and the root": the values of a file that is read, in its reply's sequence
abbrev pub read_values : List ℕ → Outcome → List ℕ
read_values file (stop k) = 0 ∷ 0 ∷ 0 ∷ replicate 10 0
read_values file (go x) = x.n ∷ count x ∷ root_read (get_or file 0 0) (count x) ∷ x.places

-- the table that a file's records stand for, as they are filed
abbrev pub table_filed : List ℕ → List ℕ → Reading → List ℕ
table_filed c file x = table_of x.n (laid_in c x.records) (root_read (get_or file 0 0) (count x))

-- the cells after a read: the records "are put in sequence on loading" (request 3)
abbrev pub read_cells : List ℕ → List ℕ → Outcome → List ℕ
read_cells c file (stop k) = c
read_cells c file (go x) = drawing x.n x.places (table_filed c file x) c

-- the records of a file that is read, as they are filed
abbrev pub records_filed : Outcome → List RecordValues
records_filed (stop k) = []
records_filed (go x) = x.records

-- read takes a file and cells
pub record Reads (file c : List ℕ) (r : Reply) (d : List ℕ) : Type 0 where
  pub answer : r ≡ reply (read_number (reading c file)) (read_values file (reading c file))
  pub cells : d ≡ read_cells c file (reading c file)

-- where the label stands; "a refused file gives an empty part"
abbrev pub label_of : Outcome → Part
label_of (stop k) = no_part
label_of (go x) = x.label

-- slice s is that part of a lent file: it lies there (`ptr` is the block of memory that a slice lies in, and its place in the block), and has those bytes
pub record IsPart (file : Bor (List ℕ)) (p : Part) (s : Bor (List ℕ)) : Type 0 where
  pub lies : s.ref_ptr ≡ (file.ref_ptr.0, p.start + file.ref_ptr.1)
  pub bytes : s.now ≡ bytes_of p file.now

-- "The label is handed out as that part of the caller's file": of a file that is read into cells of this length
abbrev pub Label : Bor (List ℕ) → List ℕ → Bor (List ℕ) → Type 0
Label file c s = IsPart file (label_of (reading c file.now)) s

-- ---- the writer

-- the bytes of records one behind the other
abbrev pub record_bytes : List RecordValues → List ℕ
record_bytes rs = flat_map in_bytes rs

abbrev pub if_some : ℕ → List ℕ → List ℕ
if_some zero field = []
if_some (suc k) field = field

abbrev pub bit_if : ℕ → ℕ → ℕ
bit_if zero b = 0
bit_if (suc k) b = b

-- the bit map, by the label's length: "The writer always sets bits 0 and 1; it sets the others when needed"
abbrev pub map_of : ℕ → ℕ → ℕ → ℕ
map_of size used root =
    2 ^ flags_bit + 2 ^ order_bit + bit_if size (2 ^ label_bit) + bit_if used (2 ^ records_bit) + cond (eqb used 0) (bit_if root (2 ^ yes_bit)) 0

abbrev pub map_byte : List ℕ → ℕ → ℕ → ℕ
map_byte l used root = map_of (length l) used root

-- the whole file; "For the writer an empty label means none"
unfoldable pub file_of : ℕ → List ℕ → List ℕ → ℕ → ℕ → List ℕ → List ℕ
file_of n o c used root l =
    map_byte l used root ∷ n ∷ flags n o ++ (if_some (length l) (length l ∷ l) ++ if_some used (two used ++ record_bytes (records_in c used)))

-- the writer's sequence: "10, tested after 13, means too few lent bytes"
abbrev pub write_rows : ℕ → List ℕ → List ℕ → ℕ → ℕ → List ℕ → List ℕ → List Row
write_rows n o c used root l bytes =
    flag_count n
    ∷ order_places n o
    ∷ cells c
    ∷ diagram_records n o c used root
    ∷ node used root
    ∷ long_label (length l)
    ∷ label_bytes l
    ∷ (ltb (length bytes) (length (file_of n o c used root l)), 10)
    ∷ []

-- write takes n, an order, cells, used records, a root, a label and lent bytes, "hands back the file's length", and "leaves bytes past the file as found"
abbrev pub Writes : ℕ → List ℕ → List ℕ → ℕ → ℕ → List ℕ → List ℕ → Reply → List ℕ → Type 0
Writes n o c used root l bytes r after =
    WritesRun (refusal (write_rows n o c used root l bytes)) (file_of n o c used root l) (length (file_of n o c used root l) ∷ []) bytes r after
