-- The settled examples that document 01 marks P, as rows of one table, and those that settle a request of document 02. Character r from the left, counted
-- from 0, is row r; "Where no order is given with the nodes, the table is packed." The proof of them all is proofs/Examples.antt.
-- Assumes nothing.
use Rattle.std.specs.Prelude.{Bool, not, ◌&&◌, List, [], ◌∷◌, ◌++◌, ℕ, ◌+◌, ◌-◌, ◌*◌, eqb, length, get_or, replicate}
use Rattle.std.proofs.Math.Option.{Option, none, some}
use Prim.Native.String.{String}
use Rattle.rule.specs.Tests.{each, same}
use Rattle.rule.specs.Level.{size, asked_total, rows_asking}
use Rattle.rule.specs.Order.{in_places, rising, asked_before, orders, packed}
use Rattle.rule.specs.Results.{root_by, walking, provoking, replaying, answered}
use Rattle.rule.specs.Cells.{width, RecordValues, record_cells}
use Rattle.rule.specs.Walk.{table_of, walks_asking, asked_in_all}
use Rattle.rule.specs.Log.{tally_numbers}
use Rattle.rule.specs.Diagram.{diagram}
use Rattle.rule.specs.Sequence.{in_sequence, drawing}
use Rattle.rule.specs.Refusals.{refusal, log_length, walk_rows, provoke_rows, replay_rows}
use Rattle.rule.specs.Reply.{Reply, reply, number_of, values_of}
use Rattle.rule.specs.Files.{reading, read_number, read_values, read_cells, write_rows}
use Rattle.rule.specs.Text.{text}
use Rattle.rule.specs.Listing.{flags_of, rows_of, asking_packed, listing}
use Rattle.rule.specs.RigTally.{rig_tally}
use Rattle.rule.specs.Sheet.{pages_for, sheet_lines, print_rows, read_record, in_use}

-- the digits of a text, and the flag count and packed order of the table that they are
abbrev pub digits : String → List ℕ
digits s = rows_of (text s)

abbrev pub packed_of : String → List ℕ
packed_of t = packed (flags_of (digits t)) (digits t)

pub data Example : Type 0 where
  -- packed, the table has so many nodes
  nodes : String → ℕ → Example
  -- packed, its root is this node
  root : String → ℕ → Example
  -- packed, its order is this
  order : String → String → Example
  -- packed, so many nodes ask the flag
  asks : String → ℕ → ℕ → Example
  -- in each order the table has so many nodes
  in_each : String → ℕ → Example
  -- in the order the table has so many nodes
  under : String → String → ℕ → Example
  -- in the order the walks of so many rows ask the flag
  rows_ask : String → String → ℕ → ℕ → Example
  -- in the order the walks over all rows ask so many flags in total
  asks_in_all : String → String → ℕ → Example
  -- the file is read: so many flags in the rising order, so many nodes, this root
  file : List ℕ → ℕ → ℕ → ℕ → Example
  -- the file is refused under this number
  refused_file : List ℕ → ℕ → Example
  -- with a label of so many bytes, and lent no byte for the file, the writer refuses the rule "no" of no flags under this number
  refused_label : ℕ → ℕ → Example
  -- the records are the diagram of the table under the order
  draws : String → String → List RecordValues → Example
  -- in records under this order the walk from the node, for the row, has this number and these values
  walks : String → List RecordValues → ℕ → ℕ → ℕ → List ℕ → Example
  -- and so the walk from the first node, under the second as its pass rule
  walks_under : String → List RecordValues → ℕ → ℕ → ℕ → ℕ → List ℕ → Example
  -- in records under this order a provoke of the first node, with this wanted answer, the second node as its pass rule, and these sets, the fixed flags and
  -- those of them that are 1, has this number and these values
  provokes : String → List RecordValues → ℕ → ℕ → ℕ → ℕ → ℕ → ℕ → List ℕ → Example
  -- in records under this order a log of these bytes, played through the node under this pass rule or none, has this number and these first values; those left
  -- of the tally's are 0
  replays : String → List RecordValues → ℕ → Option ℕ → List ℕ → ℕ → List ℕ → Example
  -- of a log of so many bytes 16 is tested, and this is the number
  log_has : ℕ → ℕ → Example
  -- for a text, and behind it these bytes, the program that plays a log prints this
  tallies : String → List ℕ → String → Example
  -- the cells of the table under the order hold these records, and 0 past them; their neighbours pass the test of the sequence
  stands : String → String → List RecordValues → Example
  -- the records are the diagram of the table under the order, in another sequence
  strays : String → String → List RecordValues → Example
  -- the file is read into cells that hold these records, and 0 past them
  fills : List ℕ → List RecordValues → Example
  -- the listing of the table's line is this text
  lists : String → String → Example
  -- so many records are printed on so many pages
  fills_pages : ℕ → ℕ → Example
  -- under the order, and with so many lent bytes, printing the records has this number, 0 for none
  lends : String → List RecordValues → ℕ → ℕ → Example
  -- of all lines printed for the records, this one, from 0, is this text
  prints : List RecordValues → ℕ → String → Example
  -- a record line is read: its node and its record
  reads_line : String → ℕ → RecordValues → Example

-- so many records of cells, that a file's records are read into and a table is drawn in: not cleared
abbrev pub lent_records : ℕ
lent_records = 5

abbrev pub lent_cells : List ℕ
lent_cells = replicate (lent_records * width) 1

-- these records in them, and 0 past these
abbrev pub in_lent : List RecordValues → List ℕ
in_lent rs = record_cells rs ++ replicate ((lent_records - length rs) * width) 0

abbrev pub branch : ℕ → ℕ → ℕ → RecordValues
branch flag low high = record { flag = flag; low = low; high = high }

-- yes where at least two of three flags are 1
abbrev pub majority : List RecordValues
majority = branch 2 0 1 ∷ branch 1 0 2 ∷ branch 1 2 1 ∷ branch 0 3 4 ∷ []

-- the same with flag 2 asked first
abbrev pub turned : List RecordValues
turned = branch 1 0 1 ∷ branch 0 0 2 ∷ branch 0 2 1 ∷ branch 2 3 4 ∷ []

-- yes where flags 0 and 2 are 1, or 1 and 3: the listing's example
abbrev pub either_pair : List RecordValues
either_pair = branch 3 0 1 ∷ branch 1 0 2 ∷ branch 2 3 1 ∷ branch 0 3 4 ∷ []

-- yes where flags 0 and 1 are 1, or 2 and 3: document 001's x1x2 + x3x4
abbrev pub neighbours : List RecordValues
neighbours = branch 3 0 1 ∷ branch 2 0 2 ∷ branch 1 3 1 ∷ branch 0 3 4 ∷ []

-- yes where flags 0 and 1 are 1, and the same with flag 1 asked first
abbrev pub both : List RecordValues
both = branch 1 0 1 ∷ branch 0 0 2 ∷ []

abbrev pub both_turned : List RecordValues
both_turned = branch 0 0 1 ∷ branch 1 0 2 ∷ []

-- yes where flag 0 is 0 and flags 1 and 2 are 1, or flags 0 and 1 are: two records of one level have one low node
abbrev pub one_low : List RecordValues
one_low = branch 2 0 1 ∷ branch 1 0 1 ∷ branch 1 0 2 ∷ branch 0 4 3 ∷ []

-- flag 1 where flag 0 is 1, else flag 2
abbrev pub choice : List RecordValues
choice = branch 2 0 1 ∷ branch 1 0 1 ∷ branch 0 2 3 ∷ []

-- the records are a diagram of the table under the order
abbrev pub is_drawn : String → String → List RecordValues → Bool
is_drawn t o rs =
    diagram (flags_of (digits t)) (in_places (digits o)) (record_cells rs) (length rs) (length rs + 1)
    && same (table_of (flags_of (digits t)) (record_cells rs) (length rs + 1)) (digits t)

abbrev pub is_in_sequence : String → List RecordValues → Bool
is_in_sequence o rs = in_sequence (length (digits o)) (in_places (digits o)) (record_cells rs) (length rs)

-- what a walk in just these records hands back, by the definitions that its contract has
abbrev pub walk_reply : List ℕ → List RecordValues → ℕ → Option ℕ → ℕ → Reply
walk_reply o rs m pass row =
    reply (refusal (walk_rows (length o) (in_places o) (record_cells rs) (length rs) m pass row)) (answered (length o) (record_cells rs) (walking m pass row) [])

-- what a provoke in just these records hands back
abbrev pub provoke_reply : List ℕ → List RecordValues → ℕ → ℕ → ℕ → ℕ → ℕ → Reply
provoke_reply o rs m wanted p fixed ones =
    reply (refusal (provoke_rows (length o) (in_places o) (record_cells rs) (length rs) m wanted p fixed ones))
    (answered (length o) (record_cells rs) (provoking m wanted p fixed ones) [])

-- what a log that is played in just these records hands back
abbrev pub replay_reply : List ℕ → List RecordValues → ℕ → Option ℕ → List ℕ → Reply
replay_reply o rs m pass log =
    reply (refusal (replay_rows (length o) (in_places o) (record_cells rs) (length rs) m pass log))
    (answered (length o) (record_cells rs) (replaying m pass) log)

-- the table's diagram under the order in just as many cells as it needs, and its root
abbrev pub drawn_cells : List ℕ → List ℕ → List ℕ
drawn_cells o t = drawing (length o) (in_places o) t (replicate (size o t * width) 0)

abbrev pub drawn_root : List ℕ → List ℕ → ℕ
drawn_root o t = root_by (size o t) t

-- a reply has this number and these values
abbrev pub tells : Reply → ℕ → List ℕ → Bool
tells r k values = eqb (number_of r) k && same (values_of r) values

unfoldable pub holds : Example → Bool
holds (nodes t k) = eqb (size (packed_of t) (digits t)) k
holds (root t m) = eqb (root_by (size (packed_of t) (digits t)) (digits t)) m
holds (order t o) = same (packed_of t) (digits o)
holds (asks t v k) = eqb (asking_packed (flags_of (digits t)) (digits t) v) k
holds (in_each t k) = each (λ o. eqb (size o (digits t)) k) (orders (flags_of (digits t)))
holds (under t o k) = eqb (size (digits o) (digits t)) k
holds (rows_ask t o v k) =
    eqb (rows_asking (asked_before v (digits o)) v (digits t)) k
    && eqb (walks_asking (length (digits o)) (drawn_cells (digits o) (digits t)) (drawn_root (digits o) (digits t)) v) k
holds (asks_in_all t o k) =
    eqb (asked_total (digits o) (digits t)) k
    && eqb (asked_in_all (length (digits o)) (drawn_cells (digits o) (digits t)) (drawn_root (digits o) (digits t))) k
holds (file f n k m) =
    eqb (read_number (reading lent_cells f)) 0 && same (read_values f (reading lent_cells f)) (n ∷ k ∷ m ∷ rising n)
holds (refused_file f k) = eqb (read_number (reading lent_cells f)) k
holds (refused_label many k) = eqb (refusal (write_rows 0 (rising 0) [] 0 0 (replicate many 0x41) [])) k
holds (draws t o rs) = is_drawn t o rs
holds (walks o rs m row k values) = tells (walk_reply (digits o) rs m none row) k values
holds (walks_under o rs m p row k values) = tells (walk_reply (digits o) rs m (some p) row) k values
holds (provokes o rs m wanted p fixed ones k values) = tells (provoke_reply (digits o) rs m wanted p fixed ones) k values
holds (replays o rs m pass log k values) =
    tells (replay_reply (digits o) rs m pass log) k (values ++ replicate (tally_numbers - length values) 0)
holds (log_has many k) = eqb (refusal (log_length (replicate many 0) ∷ [])) k
holds (tallies t log s) = same (rig_tally (text t ++ log)) (text s)
holds (stands t o rs) =
    same (drawing (flags_of (digits t)) (in_places (digits o)) (digits t) lent_cells) (in_lent rs) && is_in_sequence o rs
holds (strays t o rs) = is_drawn t o rs && not (is_in_sequence o rs)
holds (fills f rs) = same (read_cells lent_cells f (reading lent_cells f)) (in_lent rs)
holds (lists t s) = same (listing (text t)) (text s)
holds (fills_pages records pages) = eqb (pages_for records) pages
holds (lends o rs many k) =
    eqb (refusal (print_rows (length (digits o)) (in_places (digits o)) (record_cells rs) (length rs) (length rs + 1) (replicate many 0))) k
holds (reads_line s m r) =
    let (node, values) = read_record (text s) in
    in_use (text s) && same (node ∷ record_cells (values ∷ [])) (m ∷ record_cells (r ∷ []))
holds (prints rs i s) = same (get_or (sheet_lines (record_cells rs) (length rs)) i []) (text s)

unfoldable pub examples : List Example
examples =
    nodes "1" 0
    ∷ root "1" 1
    ∷ nodes "00" 0
    ∷ order "00" "0"
    ∷ nodes "01" 1
    ∷ order "0011" "01"
    ∷ nodes "0011" 1
    ∷ asks "0011" 1 1
    ∷ nodes "00010111" 4
    ∷ in_each "01101001" 5
    ∷ under "0001000100011111" "0123" 4
    ∷ under "0001000100011111" "0213" 6
    ∷ under "00100101" "012" 4
    ∷ under "00100101" "102" 5
    ∷ file (0x0B ∷ 0x01 ∷ 0x00 ∷ 0x01 ∷ 0x00 ∷ 0x00 ∷ 0x00 ∷ 0x00 ∷ 0x01 ∷ 0x00 ∷ []) 1 1 2
    ∷ file (0x13 ∷ 0x00 ∷ []) 0 0 1
    -- not marked P, but settled and as cheap: `10` is read the same as `13 00`, and the listing that the paper prints whole
    ∷ file (0x10 ∷ []) 0 0 1
    ∷ lists "0000010100110111" "flags 4\nnodes 4\norder 0 2 1 3\nflag 0 1\nflag 1 1\nflag 2 1\nflag 3 1\nyes 7\n"
    -- request 1: a label's length of 32, as one of 0, is refused at its byte, though no bytes follow; one of 31 wants its bytes, and with them is read. The
    -- writer's 13 stands ahead of its 10
    ∷ refused_file (0x04 ∷ 0x20 ∷ []) 13
    ∷ refused_file (0x04 ∷ 0x00 ∷ []) 13
    ∷ refused_file (0x04 ∷ 0x1F ∷ []) 11
    ∷ file (0x04 ∷ 0x1F ∷ replicate 31 0x41) 0 0 0
    ∷ refused_label 32 13
    ∷ refused_label 31 10
    -- request 2: where flags 0 and 1 are alike they settle it, and flag 2, on which the rule depends, is not asked; flags of value 0 are asked as those of
    -- value 1 are. From inner nodes, and from end nodes, which ask none; row 8 is refused
    ∷ draws "00010111" "012" majority
    ∷ walks "012" majority 5 0 0 (0 ∷ 3 ∷ 2 ∷ [])
    ∷ walks "012" majority 5 7 0 (1 ∷ 3 ∷ 2 ∷ [])
    ∷ walks "012" majority 5 2 0 (0 ∷ 7 ∷ 3 ∷ [])
    ∷ walks "012" majority 5 5 0 (1 ∷ 7 ∷ 3 ∷ [])
    ∷ walks "012" majority 4 4 0 (1 ∷ 6 ∷ 2 ∷ [])
    ∷ walks "012" majority 2 4 0 (1 ∷ 4 ∷ 1 ∷ [])
    ∷ walks "012" majority 1 0 0 (1 ∷ 0 ∷ 0 ∷ [])
    ∷ walks "012" majority 0 7 0 (0 ∷ 0 ∷ 0 ∷ [])
    ∷ walks "012" majority 5 8 9 (0 ∷ 0 ∷ 0 ∷ [])
    -- a bit is that of the flag, not of its place in the order, and a flag between two that are asked may be left out
    ∷ draws "0000010100110111" "0213" either_pair
    ∷ walks "0213" either_pair 5 10 0 (1 ∷ 11 ∷ 3 ∷ [])
    ∷ walks "0213" either_pair 5 5 0 (1 ∷ 5 ∷ 2 ∷ [])
    -- request 3: by the flag's place in the order, not by its number; in one level by the low node, then by the high node. What may stand in another sequence
    -- does so below it
    ∷ stands "0000010100110111" "0213" either_pair
    ∷ stands "00100101" "102" (branch 2 0 1 ∷ branch 2 1 0 ∷ branch 0 0 2 ∷ branch 0 3 2 ∷ branch 1 4 5 ∷ [])
    ∷ strays "00100101" "102" (branch 2 1 0 ∷ branch 2 0 1 ∷ branch 0 0 3 ∷ branch 0 2 3 ∷ branch 1 4 5 ∷ [])
    ∷ stands "00010111" "012" majority
    ∷ strays "00010111" "012" (branch 2 0 1 ∷ branch 1 2 1 ∷ branch 1 0 2 ∷ branch 0 4 3 ∷ [])
    ∷ stands "00010011" "012" one_low
    ∷ strays "00010011" "012" (branch 2 0 1 ∷ branch 1 0 2 ∷ branch 1 0 1 ∷ branch 0 3 4 ∷ [])
    ∷ stands "00011011" "012" choice
    ∷ strays "00011011" "012" (branch 1 0 1 ∷ branch 2 0 1 ∷ branch 0 3 2 ∷ [])
    ∷ stands "1" "" []
    -- a file in such another sequence is read; in a level the children's new numbers count, and not those of the file. A child behind its parent is still 6,
    -- though the root reaches it
    ∷ fills (0x0B ∷ 3 ∷ 0 ∷ 1 ∷ 2 ∷ 3 ∷ 0 ∷ 1 ∷ 0 ∷ 0 ∷ 1 ∷ 0 ∷ 2 ∷ 0 ∷ 0 ∷ 1 ∷ 0 ∷ 0 ∷ 3 ∷ 0 ∷ 2 ∷ 0 ∷ []) choice
    ∷ fills (0x0B ∷ 3 ∷ 0 ∷ 1 ∷ 2 ∷ 5 ∷ 0 ∷ 2 ∷ 1 ∷ 0 ∷ 0 ∷ 0 ∷ 2 ∷ 0 ∷ 0 ∷ 1 ∷ 0 ∷ 1 ∷ 2 ∷ 0 ∷ 0 ∷ 0 ∷ 1 ∷ 3 ∷ 0 ∷ 0 ∷ 0 ∷ 0 ∷ 4 ∷ 0 ∷ 5 ∷ 0 ∷ [])
    (branch 2 0 1 ∷ branch 2 1 0 ∷ branch 1 2 0 ∷ branch 1 3 0 ∷ branch 0 5 4 ∷ [])
    ∷ refused_file (0x0B ∷ 3 ∷ 0 ∷ 1 ∷ 2 ∷ 3 ∷ 0 ∷ 1 ∷ 0 ∷ 0 ∷ 3 ∷ 0 ∷ 2 ∷ 0 ∷ 0 ∷ 1 ∷ 0 ∷ 0 ∷ 0 ∷ 0 ∷ 2 ∷ 0 ∷ []) 6
    -- request 4: pages at the edges of 58 record lines
    ∷ fills_pages 0 1
    ∷ fills_pages 1 1
    ∷ fills_pages 57 1
    ∷ fills_pages 58 1
    ∷ fills_pages 59 2
    ∷ fills_pages 116 2
    ∷ fills_pages 117 3
    -- a page for the yes of no flags, and for four records; under another order these are no diagram, and 6 stands ahead of 10
    ∷ lends "" [] 1260 0
    ∷ lends "" [] 1259 10
    ∷ lends "012" majority 1260 0
    ∷ lends "012" majority 1259 10
    ∷ lends "201" majority 0 6
    -- four records leave the other record lines unused; no records have a page too
    ∷ prints majority 0 " node fl   low  high"
    ∷ prints majority 1 "    2  2     0     1"
    ∷ prints majority 4 "    5  0     3     4"
    ∷ prints majority 5 "                    "
    ∷ prints majority 58 "                    "
    ∷ prints majority 59 "page               1"
    ∷ prints [] 1 "                    "
    ∷ prints [] 59 "page               1"
    -- the 59th record opens a second page; numbers of four digits, which no diagram has (lines are defined for any records)
    ∷ prints (replicate 59 (branch 9 1024 1023)) 58 "   59  9  1024  1023"
    ∷ prints (replicate 59 (branch 9 1024 1023)) 59 "page               1"
    ∷ prints (replicate 59 (branch 9 1024 1023)) 60 " node fl   low  high"
    ∷ prints (replicate 59 (branch 9 1024 1023)) 61 "   60  9  1024  1023"
    ∷ prints (replicate 59 (branch 9 1024 1023)) 62 "                    "
    ∷ prints (replicate 59 (branch 9 1024 1023)) 119 "page               2"
    ∷ reads_line "   60  9  1024  1023" 60 (branch 9 1024 1023)
    ∷ reads_line "    2 10     0     1" 2 (branch 10 0 1)
    -- request 5: the pass rule, node 4, is flag 1 or flag 2; the flags reported are the rule's. "no" forbids each row, "yes" none, the rule itself those that it
    -- says no to. 9 stands ahead of 14; 7, for the pass rule as for the rule, ahead of 9; and 6, under another order, ahead of that
    ∷ walks_under "012" majority 5 4 1 14 (0 ∷ 0 ∷ 0 ∷ [])
    ∷ walks_under "012" majority 5 4 2 0 (0 ∷ 7 ∷ 3 ∷ [])
    ∷ walks_under "012" majority 5 4 3 0 (1 ∷ 3 ∷ 2 ∷ [])
    ∷ walks_under "012" majority 5 0 7 14 (0 ∷ 0 ∷ 0 ∷ [])
    ∷ walks_under "012" majority 5 1 0 0 (0 ∷ 3 ∷ 2 ∷ [])
    ∷ walks_under "012" majority 5 5 0 14 (0 ∷ 0 ∷ 0 ∷ [])
    ∷ walks_under "012" majority 5 5 7 0 (1 ∷ 3 ∷ 2 ∷ [])
    ∷ walks_under "012" majority 1 5 7 0 (1 ∷ 0 ∷ 0 ∷ [])
    ∷ walks_under "012" majority 5 0 8 9 (0 ∷ 0 ∷ 0 ∷ [])
    ∷ walks_under "012" majority 5 6 8 7 (0 ∷ 0 ∷ 0 ∷ [])
    ∷ walks_under "012" majority 6 0 8 7 (0 ∷ 0 ∷ 0 ∷ [])
    ∷ walks_under "201" majority 5 6 8 6 (0 ∷ 0 ∷ 0 ∷ [])
    -- the pass rule too goes by flags, not by their places: node 4 is flag 2, or flags 1 and 3
    ∷ walks_under "0213" either_pair 5 4 4 0 (0 ∷ 3 ∷ 2 ∷ [])
    -- request 6: the rising order has as few nodes, but its walks ask more flags; the rows that ask each, and what the listing then prints
    ∷ under "00000111" "012" 3
    ∷ under "00000111" "201" 3
    ∷ asks_in_all "00000111" "012" 18
    ∷ asks_in_all "00000111" "201" 14
    ∷ rows_ask "00000111" "201" 2 8
    ∷ rows_ask "00000111" "201" 0 4
    ∷ rows_ask "00000111" "201" 1 2
    ∷ order "00000111" "201"
    ∷ lists "00000111" "flags 3\nnodes 3\norder 2 0 1\nflag 0 1\nflag 1 1\nflag 2 1\nyes 3\n"
    -- an order whose walks ask fewer, but that has more nodes, isn't taken
    ∷ under "1010000001001101" "0213" 6
    ∷ asks_in_all "1010000001001101" "0213" 52
    ∷ under "1010000001001101" "0312" 7
    ∷ asks_in_all "1010000001001101" "0312" 48
    ∷ order "1010000001001101" "0213"
    -- rows count, not paths: the paths of another order ask 34 flags, those of the one that is taken 40, but their rows as many
    ∷ under "0001110001001010" "2301" 8
    ∷ asks_in_all "0001110001001010" "2301" 52
    ∷ asks_in_all "0001110001001010" "0213" 52
    ∷ order "0001110001001010" "0213"
    -- request 8: with all rows allowed (node 1) yes is lowest in row 3, though the diagram's first path to yes leads to row 12; with flag 0 fixed to 0 in row 12
    ∷ draws "0001000100011111" "0123" neighbours
    ∷ provokes "0123" neighbours 5 1 1 0 0 0 (3 ∷ [])
    ∷ provokes "0123" neighbours 5 1 1 1 0 0 (12 ∷ [])
    -- flags fixed to 1, the highest too, and all of them
    ∷ provokes "0123" neighbours 5 1 1 4 4 0 (7 ∷ [])
    ∷ provokes "0123" neighbours 5 1 1 9 8 0 (12 ∷ [])
    ∷ provokes "0123" neighbours 5 0 1 10 8 0 (8 ∷ [])
    ∷ provokes "0123" neighbours 5 1 1 15 13 0 (13 ∷ [])
    ∷ provokes "0123" neighbours 5 1 1 15 5 15 (0 ∷ [])
    -- no is wanted, which with flags 0 and 1 fixed to 1 no row gives, nor one that the pass rule "flags 2 and 3" (node 3) or the rule itself allows; "no"
    -- (node 0) allows none
    ∷ provokes "0123" neighbours 5 0 1 0 0 0 (0 ∷ [])
    ∷ provokes "0123" neighbours 5 0 1 3 3 15 (0 ∷ [])
    ∷ provokes "0123" neighbours 5 1 3 0 0 0 (12 ∷ [])
    ∷ provokes "0123" neighbours 5 0 3 0 0 15 (0 ∷ [])
    ∷ provokes "0123" neighbours 5 1 5 0 0 0 (3 ∷ [])
    ∷ provokes "0123" neighbours 5 0 5 0 0 15 (0 ∷ [])
    ∷ provokes "0123" neighbours 5 1 0 0 0 15 (0 ∷ [])
    -- an inner node as the rule, under the whole rule; an end node as the rule
    ∷ provokes "0123" neighbours 3 0 5 0 0 0 (3 ∷ [])
    ∷ provokes "0123" neighbours 1 1 5 0 0 0 (3 ∷ [])
    ∷ provokes "0123" neighbours 0 1 1 0 0 15 (0 ∷ [])
    -- 9 for each of its four tests, alone or with another, ahead of 15; bits 10 and 15 too
    ∷ provokes "0123" neighbours 5 2 0 0 0 9 (0 ∷ [])
    ∷ provokes "0123" neighbours 5 1 0 16 0 9 (0 ∷ [])
    ∷ provokes "0123" neighbours 5 1 1 16 16 9 (0 ∷ [])
    ∷ provokes "0123" neighbours 5 1 1 0 16 9 (0 ∷ [])
    ∷ provokes "0123" neighbours 5 1 1 1024 0 9 (0 ∷ [])
    ∷ provokes "0123" neighbours 5 1 1 32768 32768 9 (0 ∷ [])
    ∷ provokes "0123" neighbours 5 1 1 0 1024 9 (0 ∷ [])
    ∷ provokes "0123" neighbours 5 1 1 4 2 9 (0 ∷ [])
    -- 7, for the pass rule as for the rule, ahead of 9; 6, under another order, ahead of 7
    ∷ provokes "0123" neighbours 6 2 1 0 0 7 (0 ∷ [])
    ∷ provokes "0123" neighbours 5 2 6 0 0 7 (0 ∷ [])
    ∷ provokes "3210" neighbours 6 2 6 0 0 6 (0 ∷ [])
    -- rows go by number, whatever the order: the same rule in two orders, in one of which the first path leads to row 6; and "flag 0 or flag 1" with flag 0
    -- asked first, where it leads to row 2
    ∷ draws "00010111" "201" turned
    ∷ provokes "012" majority 5 1 1 0 0 0 (3 ∷ [])
    ∷ provokes "201" turned 5 1 1 0 0 0 (3 ∷ [])
    ∷ provokes "201" turned 5 1 1 2 0 0 (5 ∷ [])
    ∷ provokes "201" turned 4 1 1 0 0 0 (1 ∷ [])
    -- with no flags both sets must be 0
    ∷ provokes "" [] 1 1 1 0 0 0 (0 ∷ [])
    ∷ provokes "" [] 0 1 1 0 0 15 (0 ∷ [])
    ∷ provokes "" [] 1 1 1 1 0 9 (0 ∷ [])
    ∷ provokes "" [] 1 1 1 1 1 9 (0 ∷ [])
    -- request 9: rows 1 2 3 through `0001`, by hand; with flag 1 asked first the flags' numbers differ, and stand by flag
    ∷ draws "0001" "01" both
    ∷ replays "01" both 3 none (1 ∷ 0 ∷ 2 ∷ 0 ∷ 3 ∷ 0 ∷ []) 0 (3 ∷ 1 ∷ 1 ∷ 3 ∷ 2 ∷ [])
    ∷ draws "0001" "10" both_turned
    ∷ replays "10" both_turned 3 none (1 ∷ 0 ∷ 2 ∷ 0 ∷ 3 ∷ 0 ∷ []) 0 (3 ∷ 1 ∷ 1 ∷ 2 ∷ 3 ∷ [])
    -- an empty log; the first snapshot is no change, whatever it answers; each of four answers is another than the last; the answers stay
    ∷ replays "01" both 3 none [] 0 []
    ∷ replays "01" both 3 none (3 ∷ 0 ∷ []) 0 (1 ∷ 1 ∷ 0 ∷ 1 ∷ 1 ∷ [])
    ∷ replays "01" both 3 none (0 ∷ 0 ∷ []) 0 (1 ∷ 0 ∷ 0 ∷ 1 ∷ [])
    ∷ replays "01" both 3 none (3 ∷ 0 ∷ 0 ∷ 0 ∷ 3 ∷ 0 ∷ 2 ∷ 0 ∷ []) 0 (4 ∷ 2 ∷ 3 ∷ 4 ∷ 2 ∷ [])
    ∷ replays "01" both 3 none (3 ∷ 0 ∷ 3 ∷ 0 ∷ []) 0 (2 ∷ 2 ∷ 0 ∷ 2 ∷ 2 ∷ [])
    -- low byte first: rows 256, 256 and 1 through flag 8, rows 1,023 and 512 through flag 9, and row 1,024, which is none; an end node asks nothing
    ∷ replays "0123456789" (branch 8 0 1 ∷ []) 2 none (0 ∷ 1 ∷ 0 ∷ 1 ∷ 1 ∷ 0 ∷ []) 0 (3 ∷ 2 ∷ 1 ∷ 0 ∷ 0 ∷ 0 ∷ 0 ∷ 0 ∷ 0 ∷ 0 ∷ 0 ∷ 3 ∷ [])
    ∷ replays "0123456789" (branch 9 0 1 ∷ []) 2 none (255 ∷ 3 ∷ 0 ∷ 2 ∷ []) 0 (2 ∷ 2 ∷ 0 ∷ 0 ∷ 0 ∷ 0 ∷ 0 ∷ 0 ∷ 0 ∷ 0 ∷ 0 ∷ 0 ∷ 2 ∷ [])
    ∷ replays "0123456789" (branch 9 0 1 ∷ []) 2 none (0 ∷ 4 ∷ []) 9 []
    ∷ replays "01" both 1 none (1 ∷ 0 ∷ 2 ∷ 0 ∷ []) 0 (2 ∷ 2 ∷ [])
    ∷ replays "" [] 1 none (0 ∷ 0 ∷ 0 ∷ 0 ∷ []) 0 (2 ∷ 2 ∷ [])
    -- under flag 1 (node 2) as its pass rule: the rule's own flags count; 14 at the first snapshot and at the last, whatever the rule says; "no" forbids no
    -- snapshot of an empty log
    ∷ replays "01" both 3 (some 2) (3 ∷ 0 ∷ 2 ∷ 0 ∷ []) 0 (2 ∷ 1 ∷ 1 ∷ 2 ∷ 1 ∷ [])
    ∷ replays "01" both 3 (some 2) (1 ∷ 0 ∷ 3 ∷ 0 ∷ []) 14 []
    ∷ replays "01" both 3 (some 2) (3 ∷ 0 ∷ 2 ∷ 0 ∷ 1 ∷ 0 ∷ []) 14 []
    ∷ replays "01" both 1 (some 2) (1 ∷ 0 ∷ []) 14 []
    ∷ replays "01" both 3 (some 0) [] 0 []
    -- 9 at the first snapshot and at the last; of two faults the earlier one; a row that is both is 9
    ∷ replays "01" both 3 none (4 ∷ 0 ∷ 3 ∷ 0 ∷ []) 9 []
    ∷ replays "01" both 3 none (3 ∷ 0 ∷ 3 ∷ 1 ∷ []) 9 []
    ∷ replays "01" both 3 (some 2) (3 ∷ 0 ∷ 1 ∷ 0 ∷ 4 ∷ 0 ∷ []) 14 []
    ∷ replays "01" both 3 (some 2) (3 ∷ 0 ∷ 4 ∷ 0 ∷ 1 ∷ 0 ∷ []) 9 []
    ∷ replays "01" both 3 (some 0) (4 ∷ 0 ∷ []) 9 []
    -- 16 stands ahead of both, 7, for the rule as for the pass rule, ahead of 16, 6, under another order, ahead of 7, and 4 and 1 ahead of that
    ∷ replays "01" both 3 (some 2) (1 ∷ 0 ∷ 4 ∷ 0 ∷ 3 ∷ []) 16 []
    ∷ replays "01" both 4 none (3 ∷ []) 7 []
    ∷ replays "01" both 3 (some 4) (3 ∷ []) 7 []
    ∷ replays "10" both 4 (some 4) (3 ∷ []) 6 []
    ∷ replays "00" both 4 none (3 ∷ []) 4 []
    ∷ replays "01234567890" both 4 none (3 ∷ []) 1 []
    ∷ log_has 0 0
    ∷ log_has 1 16
    ∷ log_has 2 0
    ∷ log_has 65534 0
    ∷ log_has 65535 16
    ∷ log_has 65536 16
    -- the program: the same by hand; no log, an empty one, no flags, and a log with a byte 0A, which is row 10
    ∷ tallies "0001\n" (1 ∷ 0 ∷ 2 ∷ 0 ∷ 3 ∷ 0 ∷ []) "3\n1\n1\n3\n2\n"
    ∷ tallies "0001" [] "0\n0\n0\n0\n0\n"
    ∷ tallies "0001\n" [] "0\n0\n0\n0\n0\n"
    ∷ tallies "1" [] "0\n0\n0\n"
    ∷ tallies "0000000000100000\n" (10 ∷ 0 ∷ 9 ∷ 0 ∷ []) "2\n1\n1\n2\n1\n1\n1\n"
    -- yes stands ahead of changes; the flags asked are those of the rising order, which isn't the packed one, and of the reduced diagram; numbers of three
    -- digits; tables of nine and ten flags are taken
    ∷ tallies "01\n" (1 ∷ 0 ∷ 1 ∷ 0 ∷ []) "2\n2\n0\n2\n"
    ∷ tallies "00000111\n" (0 ∷ 0 ∷ []) "1\n0\n0\n1\n1\n0\n"
    ∷ tallies "0011\n" (1 ∷ 0 ∷ 2 ∷ 0 ∷ []) "2\n1\n1\n0\n2\n"
    ∷ tallies "1\n" (replicate 600 0) "300\n300\n0\n"
    ∷ tallies "" (replicate 512 0x30 ++ (0x0A ∷ [])) "0\n0\n0\n0\n0\n0\n0\n0\n0\n0\n0\n0\n"
    ∷ tallies "" (replicate 1024 0x30) "0\n0\n0\n0\n0\n0\n0\n0\n0\n0\n0\n0\n0\n"
    -- 1, 2, 3, 16 and 9, each ahead of the next; a last byte 0A is the log's
    ∷ tallies "" (replicate 1025 0x30) "refused 1\n"
    ∷ tallies "" (replicate 2048 0x78) "refused 1\n"
    ∷ tallies "" [] "refused 2\n"
    ∷ tallies "\n" (0 ∷ []) "refused 2\n"
    ∷ tallies "0x0\n" (0 ∷ []) "refused 2\n"
    ∷ tallies "0x\n" (0 ∷ []) "refused 3\n"
    ∷ tallies "01\n" (2 ∷ 0 ∷ 0 ∷ []) "refused 16\n"
    ∷ tallies "01\n" (0 ∷ 0 ∷ 0x0A ∷ []) "refused 16\n"
    ∷ tallies "1\n" (replicate 65536 1) "refused 16\n"
    ∷ tallies "01\n" (1 ∷ 0 ∷ 2 ∷ 0 ∷ []) "refused 9\n"
    ∷ tallies "1\n" (1 ∷ 0 ∷ []) "refused 9\n"
    ∷ []
