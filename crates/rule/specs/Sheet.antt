-- The printed sheet (document 02, request 4): a diagram's records on pages, the call that prints them, and the pages read.
-- Assumes nothing.
use Rattle.std.specs.Prelude.{Bool, true, false, not, cond, ℕ, zero, suc, ◌+◌, ◌-◌, ◌*◌, ◌/◌, eqb, ltb, length, take, drop, replicate}
use mathlib.Core.List.{List, [], ◌∷◌, ◌++◌, map, flat_map}
use Rattle.rule.specs.Bits.{from, below}
use Rattle.rule.specs.Tests.{each, keep}
use Rattle.rule.specs.Cells.{RecordValues, record_in}
use Rattle.rule.specs.Refusals.{Row, refusal, result, check_rows}
use Rattle.rule.specs.Reply.{Reply, WritesRun}
use Rattle.rule.specs.Text.{text, digit_byte, blank, right, line_end, read_line}

-- ---- a page's lines, their ends left out

-- "pages of 60 lines"
abbrev pub page_lines : ℕ
page_lines = 60

-- "each 20 characters and a line end (0A)"
abbrev pub line_length : ℕ
line_length = 20

-- "The first line is ` node fl   low  high`."
abbrev pub first_line : List ℕ
first_line = text " node fl   low  high"

-- "Then come 58 record lines"
abbrev pub record_lines : ℕ
record_lines = 58

-- "node in 5 places, flag in 2, low in 5, high in 5"
abbrev pub node_places : ℕ
node_places = 5

abbrev pub flag_places : ℕ
flag_places = 2

-- a number behind the "one blank between"
abbrev pub column : ℕ → ℕ → List ℕ
column places x = blank ∷ right places x

-- the line of node m and its record: "node .., flag .., low .., high .., right-aligned, one blank between"
unfoldable pub record_line : ℕ → RecordValues → List ℕ
record_line m r = right node_places m ++ column flag_places r.flag ++ column node_places r.low ++ column node_places r.high

-- "unused lines are blanks"
abbrev pub unused_line : List ℕ
unused_line = replicate line_length blank

-- the line of record k, which is node k + 2; an unused line from the used records on
abbrev pub line_of : List ℕ → ℕ → ℕ → List ℕ
line_of c used k = cond (ltb k used) (record_line (k + 2) (record_in c k)) unused_line

-- "page number, .., right-aligned in 16"
abbrev pub page_places : ℕ
page_places = 16

-- "The last line is `page` and the page number, from 1"
unfoldable pub last_line : ℕ → List ℕ
last_line page = text "page" ++ right page_places page

-- the page behind so many others, by the line of each record: its record lines go on "by rising node" where theirs end
abbrev pub page_of : (ℕ → List ℕ) → ℕ → List (List ℕ)
page_of line before = first_line ∷ (map line (from (before * record_lines) record_lines) ++ (last_line (before + 1) ∷ []))

-- ---- all pages

-- the page that the last record stands on; "No records still make one page."
abbrev pub pages_for : ℕ → ℕ
pages_for zero = 1
pages_for (suc k) = k / record_lines + 1

-- their lines
unfoldable pub sheet_lines : List ℕ → ℕ → List (List ℕ)
sheet_lines c used = flat_map (page_of (line_of c used)) (below (pages_for used))

-- a line and its end
abbrev pub ended : List ℕ → List ℕ
ended line = line ++ line_end

-- the bytes of a page: 1,260
abbrev pub page_bytes : ℕ
page_bytes = page_lines * (line_length + 1)

-- what is printed of so many records in cells, in bytes: "n, the order and an end-node root aren't printed"
unfoldable pub sheet : List ℕ → ℕ → List ℕ
sheet c used = flat_map ended (sheet_lines c used)

-- ---- the call

-- it takes a diagram, as check does; "Checks: a lent page buffer that is too short gives 10, tested last.": the bytes needed, and those lent
abbrev pub print_rows : ℕ → List ℕ → List ℕ → ℕ → ℕ → List ℕ → List Row
print_rows n o c used root bytes = check_rows n o c used root ++ (result (length (sheet c used)) (length bytes) ∷ [])

-- print takes n, an order, cells, used records, a root and lent bytes. "The number of pages is handed back. Bytes past the last page are untouched."
abbrev pub Prints : ℕ → List ℕ → List ℕ → ℕ → ℕ → List ℕ → Reply → List ℕ → Type 0
Prints n o c used root bytes r after = WritesRun (refusal (print_rows n o c used root bytes)) (sheet c used) (pages_for used ∷ []) bytes r after

-- ---- the pages read: "The pages give back every record"

-- the first so many lines of some bytes
unfoldable pub lines_in : ℕ → List ℕ → List (List ℕ)
lines_in zero bytes = []
lines_in (suc k) bytes = (read_line bytes).0 ∷ lines_in k (read_line bytes).1

-- the number that digits stand for, behind one read so far; a blank counts for nothing
unfoldable pub number_from : ℕ → List ℕ → ℕ
number_from x [] = x
number_from x (b ∷ bs) = elim (eqb b blank) [ true ↦ number_from x bs | false ↦ number_from (x * 10 + (b - digit_byte 0)) bs ]

-- the number in so many places of a line, from this one on
abbrev pub number_at : List ℕ → ℕ → ℕ → ℕ
number_at line start places = number_from 0 (take places (drop start line))

-- a record line read: the node and its record
abbrev pub read_record : List ℕ → ℕ × RecordValues
read_record line =
    (number_at line 0 node_places, record { flag = number_at line 6 flag_places; low = number_at line 9 node_places; high = number_at line 15 node_places })

-- an unused line has blanks alone
abbrev pub in_use : List ℕ → Bool
in_use line = not (each (eqb blank) line)

-- the records of these lines
abbrev pub records_on : List (List ℕ) → List (ℕ × RecordValues)
records_on lines = map read_record (keep in_use lines)

-- those of so many pages: their lines stand behind a page's first line and before its last
unfoldable pub read_lines : ℕ → List (List ℕ) → List (ℕ × RecordValues)
read_lines zero lines = []
read_lines (suc pages) lines = records_on (take record_lines (drop 1 lines)) ++ read_lines pages (drop page_lines lines)

-- so many pages read from some bytes, whatever stands past them: each record with its node
abbrev pub read_pages : ℕ → List ℕ → List (ℕ × RecordValues)
read_pages pages bytes = read_lines pages (lines_in (pages * page_lines) bytes)
