-- The listing program's lines (document 01, "The listing program"), in bytes.
-- Assumes nothing.
use Rattle.std.specs.Prelude.{Bool, true, false, not, ◌||◌, ℕ, zero, suc, ◌-◌, ◌^◌, eqb, ltb, length}
use mathlib.Core.List.{List, [], ◌∷◌, ◌++◌, map, flat_map}
use Prim.Native.String.{String}
use Rattle.rule.specs.Bits.{below}
use Rattle.rule.specs.Tests.{each, keep}
use Rattle.rule.specs.Level.{level_count, size}
use Rattle.rule.specs.Order.{asked_before, packed}
use Rattle.rule.specs.Refusals.{Row, refusal}
use Rattle.rule.specs.Text.{text, digit_byte, number, line_end, read_line}

-- ---- the table's line

-- "as a table of the characters 0 and 1, row 0 first"
abbrev pub is_digit : ℕ → Bool
is_digit b = eqb b (digit_byte 0) || eqb b (digit_byte 1)

abbrev pub rows_of : List ℕ → List ℕ
rows_of line = map (λ b. b - digit_byte 0) line

-- the flag count n of a line of 2^n characters, n up to 10; 11 where there is none
unfoldable pub flags_from : ℕ → ℕ → ℕ → ℕ
flags_from zero n rows = n
flags_from (suc more) n rows = elim (eqb rows (2 ^ n)) [ true ↦ n | false ↦ flags_from more (suc n) rows ]

abbrev pub flags_of : List ℕ → ℕ
flags_of line = flags_from 11 0 (length line)

-- "1,024 rows": those of a table of ten flags
abbrev pub most_rows : ℕ
most_rows = 1024

-- "More than 1,024 rows print `refused 1`; a row count that is no power of two `refused 2`, the empty line too; another character `refused 3`"
abbrev pub line_rows : List ℕ → List Row
line_rows line = (ltb most_rows (length line), 1) ∷ (ltb 10 (flags_of line), 2) ∷ (not (each is_digit line), 3) ∷ []

-- "The workspace is 6,561 cells."
abbrev pub workspace_cells : ℕ
workspace_cells = 6561

-- "nine or ten flags `refused 8`": for them that is "shorter than 3^n cells"
abbrev pub short_workspace : ℕ → Row
short_workspace n = (ltb workspace_cells (3 ^ n), 8)

abbrev pub listing_rows : List ℕ → List Row
listing_rows line = line_rows line ++ (short_workspace (flags_of line) ∷ [])

-- ---- what is printed

-- numbers, each behind a blank
abbrev pub numbers : List ℕ → List ℕ
numbers xs = flat_map number xs

-- a line of a word and a number
abbrev pub word_line : String → ℕ → List ℕ
word_line word x = text word ++ (number x ++ line_end)

-- "A `flag` line has the flag and its nodes"
abbrev pub flag_line : ℕ → ℕ → List ℕ
flag_line v nodes = text "flag" ++ (number v ++ (number nodes ++ line_end))

-- the lines of these flags, with the nodes that `asked` gives each
abbrev pub flag_lines : (ℕ → ℕ) → List ℕ → List ℕ
flag_lines asked vs = flat_map (λ v. flag_line v (asked v)) vs

-- "With no flags the `order` line is the bare word."
abbrev pub order_line : List ℕ → List ℕ
order_line order = text "order" ++ (numbers order ++ line_end)

-- the nodes asking flag v in the packed diagram
abbrev pub asking_packed : ℕ → List ℕ → ℕ → ℕ
asking_packed n t v = level_count (asked_before v (packed n t)) v t

-- "`yes` is the number of all 2^n rows that say yes."
abbrev pub yes_count : List ℕ → ℕ
yes_count t = length (keep (eqb 1) t)

-- what is printed of a table of n flags; its flag lines "by rising flag"
unfoldable pub listed : ℕ → List ℕ → List ℕ
listed n t =
    word_line "flags" n
    ++ (word_line "nodes" (size (packed n t) t)
    ++ (order_line (packed n t)
    ++ (flag_lines (asking_packed n t) (below n)
    ++ word_line "yes" (yes_count t))))

-- and under a refusal's number
abbrev pub listed_or : ℕ → ℕ → List ℕ → List ℕ
listed_or zero n t = listed n t
listed_or (suc k) n t = word_line "refused" (suc k)

-- all that the program prints, for what it finds on standard input: "It reads standard input up to the first byte 0A, or to the end"; what is left is ignored
unfoldable pub listing : List ℕ → List ℕ
listing input = let line = (read_line input).0 in listed_or (refusal (listing_rows line)) (flags_of line) (rows_of line)
