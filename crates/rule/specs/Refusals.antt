-- The refusal table, row by row, and for every call the rows that it tests, in its sequence (document 01, "Refused, by where it is found"; 14, 15 and
-- 16: document 02, requests 5, 8 and 9).
-- The reader's own sequence and the writer's rows are in Files.antt, print's rows in Sheet.antt.
-- Assumes nothing.
use Rattle.std.specs.Prelude.{Bool, true, false, not, ◌&&◌, ◌||◌, ℕ, ◌+◌, ◌%◌, ◌^◌, eqb, leb, ltb, length}
use mathlib.Core.List.{List, [], ◌∷◌, ◌++◌, map, flat_map}
use Rattle.std.proofs.Math.Option.{Option}
use Rattle.rule.specs.Table.{fit_length, fit_rows}
use Rattle.rule.specs.Level.{size}
use Rattle.rule.specs.Order.{flags, fit_order, packed}
use Rattle.rule.specs.Cells.{fit_cells, room}
use Rattle.rule.specs.Sound.{sound}
use Rattle.rule.specs.Diagram.{all_reached}
use Rattle.rule.specs.Pass.{pass_nodes, forbids}
use Rattle.rule.specs.Provoke.{ones_fixed, serving_in}
use Rattle.rule.specs.Log.{snapshots}
use Rattle.rule.specs.Results.{Making, flag, join, choose, fix, rules_among, made_in, needed, free, Query, tabulating, walking, provoking, replaying}

-- a row of the table: whether it applies, and its number
abbrev pub Row : Type 0
Row = Bool × ℕ

abbrev pub first_else : Bool → ℕ → ℕ → ℕ
first_else true number rest = number
first_else false number rest = rest

-- "test downwards and give the first that applies"; 0 where none does: "A call that meets none of these is accepted."
abbrev pub refusal : List Row → ℕ
refusal [] = 0
refusal (row ∷ rows) = first_else row.0 row.1 (refusal rows)

-- ---- the rows

-- "n above 10"
abbrev pub flag_count : ℕ → Row
flag_count n = (ltb 10 n, 1)

-- "length not 2^n"
abbrev pub table_length : ℕ → List ℕ → Row
table_length n t = (not (fit_length n t), 2)

-- "a byte other than 0 or 1"
abbrev pub table_read : List ℕ → Row
table_read t = (not (fit_rows t), 3)

-- "a flag missing or twice, or a place from n on not 0"
abbrev pub order_places : ℕ → List ℕ → Row
order_places n o = (not (fit_order n o), 4)

-- "length no multiple of 3, or above 3,072"
abbrev pub cells : List ℕ → Row
cells c = (not (fit_cells c), 5)

-- "not sound, or more used than the cells hold"
abbrev pub records : ℕ → List ℕ → List ℕ → ℕ → Row
records n o c used = (not (sound n o c used), 6)

-- the same, or "for a diagram with a root up to used records + 1, a record out of reach"
abbrev pub diagram_records : ℕ → List ℕ → List ℕ → ℕ → ℕ → Row
diagram_records n o c used root = (not (sound n o c used) || (leb root (used + 1) && not (all_reached c used root)), 6)

-- "above used records + 1"
abbrev pub node : ℕ → ℕ → Row
node used m = (ltb (used + 1) m, 7)

-- "shorter than 3^n cells"
abbrev pub workspace : ℕ → List ℕ → Row
workspace n w = (ltb (length w) (3 ^ n), 8)

-- "row not below 2^n"
abbrev pub row_argument : ℕ → ℕ → Row
row_argument n r = (leb (2 ^ n) r, 9)

-- "flag not below n"
abbrev pub flag_argument : ℕ → ℕ → Row
flag_argument n i = (leb n i, 9)

-- "operator above 15"
abbrev pub operator_argument : ℕ → Row
operator_argument code = (ltb 15 code, 9)

-- "constant or fixed value above 1"; "a wanted answer above 1" (request 8)
abbrev pub value_argument : ℕ → Row
value_argument v = (ltb 1 v, 9)

-- "a set bit at or above n" (request 8): the set's number is not below 2^n
abbrev pub set_argument : ℕ → ℕ → Row
set_argument n set = (leb (2 ^ n) set, 9)

-- "a 1 outside the fixed set" (request 8)
abbrev pub ones_argument : ℕ → ℕ → Row
ones_argument fixed ones = (not (ones_fixed fixed ones), 9)

-- "records needed exceed those free"
abbrev pub result : ℕ → ℕ → Row
result need have = (ltb have need, 10)

-- "row that the pass rule forbids" (request 5)
abbrev pub pass_argument : ℕ → List ℕ → Option ℕ → ℕ → Row
pass_argument n c pass r = (forbids n c pass r, 14)

-- "no such row" (request 8), where these are the rows that serve
abbrev pub no_such_row : List ℕ → Row
no_such_row rows = (eqb (length rows) 0, 15)

-- "65,534 bytes": those of 32,767 snapshots
abbrev pub most_log : ℕ
most_log = 65534

-- "log of odd length or above 65,534 bytes" (request 9)
abbrev pub log_length : List ℕ → Row
log_length log = (eqb (length log % 2) 1 || ltb most_log (length log), 16)

-- ---- the calls

abbrev pub build_rows : ℕ → List ℕ → List ℕ → List ℕ → List Row
build_rows n t o c =
    flag_count n ∷ table_length n t ∷ table_read t ∷ order_places n o ∷ cells c ∷ result (size (flags n o) t) (room c) ∷ []

abbrev pub check_rows : ℕ → List ℕ → List ℕ → ℕ → ℕ → List Row
check_rows n o c used root = flag_count n ∷ order_places n o ∷ cells c ∷ diagram_records n o c used root ∷ node used root ∷ []

-- what is tested of a row: 14 "tested after 9" (request 5)
abbrev pub row_rows : ℕ → List ℕ → Option ℕ → ℕ → List Row
row_rows n c pass r = row_argument n r ∷ pass_argument n c pass r ∷ []

-- 1 4 5 6, 7 for the rule, 7 for the pass rule, if one is given; then these
abbrev pub pass_rows : ℕ → List ℕ → List ℕ → ℕ → ℕ → Option ℕ → List Row → List Row
pass_rows n o c used m pass rows =
    flag_count n
    ∷ order_places n o
    ∷ cells c
    ∷ records n o c used
    ∷ node used m
    ∷ (map (node used) (pass_nodes pass) ++ rows)

abbrev pub walk_rows : ℕ → List ℕ → List ℕ → ℕ → ℕ → Option ℕ → ℕ → List Row
walk_rows n o c used m pass r = pass_rows n o c used m pass (row_rows n c pass r)

-- "tabulate a rule into lent bytes": their length is tested, and none of them is read
abbrev pub tabulate_rows : ℕ → List ℕ → List ℕ → ℕ → ℕ → List ℕ → List Row
tabulate_rows n o c used m bytes =
    flag_count n ∷ table_length n bytes ∷ order_places n o ∷ cells c ∷ records n o c used ∷ node used m ∷ []

-- what refusal 9 tests of a wanted answer and two sets (request 8)
abbrev pub aim_rows : ℕ → ℕ → ℕ → ℕ → List Row
aim_rows n wanted fixed ones = value_argument wanted ∷ set_argument n fixed ∷ set_argument n ones ∷ ones_argument fixed ones ∷ []

-- 7 for the rule, then for the pass rule, which is always named; "no such row is 15, tested last" (request 8)
abbrev pub provoke_rows : ℕ → List ℕ → List ℕ → ℕ → ℕ → ℕ → ℕ → ℕ → ℕ → List Row
provoke_rows n o c used m wanted p fixed ones =
    flag_count n
    ∷ order_places n o
    ∷ cells c
    ∷ records n o c used
    ∷ node used m
    ∷ node used p
    ∷ (aim_rows n wanted fixed ones ++ (no_such_row (serving_in n c m wanted p fixed ones) ∷ []))

-- what is tested of a log: 16, "tested after 7 and before its rows", then what is of each row; "the earliest in the log first" (request 9)
abbrev pub log_rows : ℕ → List ℕ → Option ℕ → List ℕ → List Row
log_rows n c pass log = log_length log ∷ flat_map (row_rows n c pass) (snapshots log)

abbrev pub replay_rows : ℕ → List ℕ → List ℕ → ℕ → ℕ → Option ℕ → List ℕ → List Row
replay_rows n o c used m pass log = pass_rows n o c used m pass (log_rows n c pass log)

-- those of a call that makes no rule, with the bytes that it is lent
abbrev pub query_rows : ℕ → List ℕ → List ℕ → ℕ → Query → List ℕ → List Row
query_rows n o c used (tabulating m) bytes = tabulate_rows n o c used m bytes
query_rows n o c used (walking m pass row) bytes = walk_rows n o c used m pass row
query_rows n o c used (provoking m wanted p fixed ones) bytes = provoke_rows n o c used m wanted p fixed ones
query_rows n o c used (replaying m pass) log = replay_rows n o c used m pass log

-- "open tests neither 6 nor 7"
abbrev pub open_rows : ℕ → List ℕ → List ℕ → List Row
open_rows n o c = flag_count n ∷ order_places n o ∷ cells c ∷ []

abbrev pub constant_rows : ℕ → List ℕ → List ℕ → ℕ → ℕ → List Row
constant_rows n o c used v = flag_count n ∷ order_places n o ∷ cells c ∷ records n o c used ∷ value_argument v ∷ []

-- what refusal 9 tests of the arguments of a call that makes a rule
abbrev pub argument_rows : ℕ → Making → List Row
argument_rows n (flag i) = flag_argument n i ∷ []
argument_rows n (join code f g) = operator_argument code ∷ []
argument_rows n (choose f g h) = []
argument_rows n (fix m i b) = flag_argument n i ∷ value_argument b ∷ []

-- all that is tested of its arguments: 7 for each rule among them, then 9
abbrev pub own_rows : ℕ → ℕ → Making → List Row
own_rows n used x = map (node used) (rules_among x) ++ argument_rows n x

-- flag, join, choose, fix
abbrev pub making_rows : ℕ → List ℕ → List ℕ → ℕ → Making → List Row
making_rows n o c used x =
    flag_count n
    ∷ order_places n o
    ∷ cells c
    ∷ records n o c used
    ∷ (own_rows n used x ++ (result (needed n o c used (made_in n c x)) (free c used) ∷ []))

abbrev pub pack_rows : ℕ → List ℕ → List ℕ → List ℕ → List Row
pack_rows n t c w =
    flag_count n ∷ table_length n t ∷ table_read t ∷ cells c ∷ workspace n w ∷ result (size (packed n t) t) (room c) ∷ []
