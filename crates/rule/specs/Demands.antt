-- Demands 2 and 3, each as one statement over the outcomes of Calls.antt, Files.antt and Sheet.antt, and eight more: what holds of the set and the number that
-- a walk hands back, which walks a pass rule refuses, which row provoke hands back, what the tally of a log counts, which order pack takes of several, in which
-- sequence records stand, that what the writer writes the reader reads, and that printed pages give back every record. (Demand 1 is the contracts themselves: no
-- call has a condition, each gives its number and every lent buffer, and the check proves that it reads, writes and ends within what it was given.)
-- Assumes nothing.
use Rattle.std.specs.Prelude.{◌≡◌, ◌≢◌, ◌↔◌, Bool, true, false, ℕ, ◌+◌, ◌*◌, ◌%◌, ◌^◌, ◌≤◌, ◌<◌, eqb, length, get_or, take, replicate}
use mathlib.Core.List.{List, [], ◌∷◌, map, flat_map, Memᴰ}
use Rattle.std.proofs.Math.Option
use Rattle.std.proofs.Math.Option.{Option, none, some}
use Rattle.rule.specs.Bits.{bit, below, sum_over}
use Rattle.rule.specs.Tests.{each}
use Rattle.rule.specs.Table.{fit_length, fit_rows, depends, restrict}
use Rattle.rule.specs.Level.{level_count, size, asked_total, rows_asking}
use Rattle.rule.specs.Order.{places, flags, fit_order, rising, asked_before, Lex}
use Rattle.rule.specs.Sets.{set_size}
use Rattle.rule.specs.Cells.{width, fit_cells, room, flag_at, low_at, high_at, RecordValues, laid_in, record_in, records_in}
use Rattle.rule.specs.Walk.{records_passed, flags_asked, walk_values, table_of, walks_asking, asked_in_all}
use Rattle.rule.specs.Sound.{sound}
use Rattle.rule.specs.Diagram.{diagram, asking}
use Rattle.rule.specs.Sequence.{in_sequence, drawing}
use Rattle.rule.specs.Reduced.{DrawnAs}
use Rattle.rule.specs.Pass.{says_no}
use Rattle.rule.specs.Provoke.{Serves, NoneServes}
use Rattle.rule.specs.Log.{Played, snapshots, played_by, tally_numbers, tally_of}
use Rattle.rule.specs.Results.{Making, made_in, needed, root_by, Query, tabulating, walking, provoking, replaying}
use Rattle.rule.specs.Refusals.{Row, refusal, flag_count, order_places, cells, records, node, row_argument, most_log, log_length, pass_rows}
use Rattle.rule.specs.Reply.{Reply, accepted, refused, reply, number_of, value_at, Accepted}
use Rattle.rule.specs.Calls.{State, Build, Check, Walks, Provokes, Replays, Tabulates, Tabulate, Walk, Provoke, Replay, Make, Pack}
use Rattle.rule.specs.Files.{bytes_of, reading, records_filed, label_of, Reads, Writes}
use Rattle.rule.specs.Text.{read_line}
use Rattle.rule.specs.Listing.{flags_of, rows_of, line_rows, word_line}
use Rattle.rule.specs.RigTally.{printed_tally, rig_tally}
use Rattle.rule.specs.Sheet.{line_length, page_lines, page_bytes, pages_for, sheet_lines, sheet, Prints, lines_in, read_pages}
use Rattle.rule.specs.History.{Asked, open_call, constant_call, making_call, query_call, Call, Calls, Fed, feed, Opens, BeginsOpen, Book, in_book, enter, book_of}

-- n flags in a fit order, and a fit table of theirs
pub record Fit (n : ℕ) (order t : List ℕ) : Type 0 where
  pub few : n ≤ 10
  pub kept_in : length order ≡ places
  pub order_fits : fit_order n order ≡ true
  pub rows : fit_length n t ≡ true
  pub bits : fit_rows t ≡ true

-- ---- demand 2

-- a call's reply is accepted with these values
abbrev pub Gives : Reply → List ℕ → Type 0
Gives r values = r ≡ accepted values

-- a diagram "stands for one table only, tabulating it gives that table, and the node count handed back with it is the number of its records"
pub record StandsFor (n : ℕ) (order t c : List ℕ) (nodes root : ℕ) : Type 0 where
  pub drawn : DrawnAs n order t c nodes root
  pub tabulates : (bytes after : List ℕ) (r : Reply) → length bytes ≡ 2 ^ n → Tabulates n order c nodes root bytes r after → Accepted r × (after ≡ t)

-- record j of d is record k of c, but for the sequence: it has the same flag and table, and its children have the tables of k's children
pub record Matches (n : ℕ) (c d : List ℕ) (k j : ℕ) : Type 0 where
  pub flag : flag_at d j ≡ flag_at c k
  pub low : table_of n d (low_at d j) ≡ table_of n c (low_at c k)
  pub high : table_of n d (high_at d j) ≡ table_of n c (high_at c k)
  pub table : table_of n d (j + 2) ≡ table_of n c (k + 2)

-- rule t needs more records than the store's cells c hold: sound cells, however many, that keep the older nodes and hold t use more than that
abbrev pub NoRoomFor : State → List ℕ → List ℕ → Type 0
NoRoomFor s c t =
    (d : List ℕ) (more m : ℕ) → sound s.n s.places d more ≡ true → s.used ≤ more
    → ((k : ℕ) → k ≤ s.used + 1 → table_of s.n d k ≡ table_of s.n c k) → m ≤ more + 1 → table_of s.n d m ≡ t → room c < more

pub record Demand2 : Type 0 where
  -- "A diagram built from a table under an order is the reduced ordered diagram of that table as Bryant and Friedman define it."
  pub built : (n nodes root : ℕ) (t order c d : List ℕ) (r : Reply) → length order ≡ places → Build n t order c r d → Gives r (nodes ∷ root ∷ [])
      → StandsFor n order t d nodes root
  -- and so is a packed one
  pub packs : (n nodes root : ℕ) (t order c w d x : List ℕ) (r : Reply) → Pack n t c w r d x → Gives r (nodes ∷ root ∷ order) → StandsFor n order t d nodes root
  -- "Every accepted diagram stands for one table only": of check
  pub checked : (n nodes used root : ℕ) (order c : List ℕ) (r : Reply) → length order ≡ places → Check n order c used root r → Gives r (nodes ∷ [])
      → (nodes ≡ used) × StandsFor n order (table_of n c root) c nodes root
  -- and of the reader
  pub read : (n nodes root : ℕ) (order file c d : List ℕ) (r : Reply) → Reads file c r d → Gives r (n ∷ nodes ∷ root ∷ order)
      → StandsFor n order (table_of n d root) d nodes root
  -- and of the writer, which takes a diagram too
  pub written : (n used root k : ℕ) (order c label bytes after : List ℕ) (r : Reply) → length order ≡ places → Writes n order c used root label bytes r after
      → Gives r (k ∷ []) → StandsFor n order (table_of n c root) c used root
  -- and of print, which takes one too (request 4)
  pub printed : (n used root pages : ℕ) (order c bytes after : List ℕ) (r : Reply) → length order ≡ places → Prints n order c used root bytes r after
      → Gives r (pages ∷ []) → StandsFor n order (table_of n c root) c used root
  -- "In one store two node numbers are equal exactly when their rules agree on every row."
  pub canonical : (n used k m : ℕ) (order c : List ℕ) → n ≤ 10 → length order ≡ places → fit_order n order ≡ true → sound n order c used ≡ true → k ≤ used + 1
      → m ≤ used + 1 → (table_of n c k ≡ table_of n c m) ↔ (k ≡ m)
  -- "So its root is its last record, or an end node when there are none."
  pub root_last : (n used root : ℕ) (order c : List ℕ) → diagram n order c used root ≡ true → (0 < used → root ≡ used + 1) × (used ≡ 0 → root ≤ 1)
  -- "the reduced ordered diagram of that table": each record of one is in any other, in whichever of "the permitted sequences"
  pub one_diagram : (n : ℕ) (order t : List ℕ) → Fit n order t → (c d : List ℕ) (used root more top : ℕ) → DrawnAs n order t c used root
      → DrawnAs n order t d more top → (k : ℕ) → k < used → (j : ℕ) × (j < more) × Matches n c d k j
  -- what refusal 10 counts for build and pack: the records of each diagram of the table, of which there is one in every order
  pub counts : (n : ℕ) (order t : List ℕ) → Fit n order t → (c : List ℕ) (used root : ℕ) → DrawnAs n order t c used root → used ≡ size (flags n order) t
  pub exists : (n : ℕ) (order t : List ℕ) → Fit n order t → (c : List ℕ) × (used : ℕ) × (root : ℕ) × DrawnAs n order t c used root
  -- and how many of these records ask each flag, as the listing prints: "Nodes asking flag v number the distinct rules that depend on v and arise by fixing the
  -- flags before v in all ways."
  pub asks : (n : ℕ) (order t : List ℕ) → Fit n order t → (c : List ℕ) (used root : ℕ) → DrawnAs n order t c used root → (v : ℕ) → v < n
      → asking c used v ≡ level_count (asked_before v (flags n order)) v t
  -- and the walks of the rows (request 6): how many ask each flag, and how many flags they ask in total
  pub walks_ask : (n : ℕ) (order t : List ℕ) → Fit n order t → (c : List ℕ) (used root : ℕ) → DrawnAs n order t c used root → (v : ℕ) → v < n
      → walks_asking n c root v ≡ rows_asking (asked_before v (flags n order)) v t
  pub asked_total_lem : (n : ℕ) (order t : List ℕ) → Fit n order t → (c : List ℕ) (used root : ℕ) → DrawnAs n order t c used root
      → asked_in_all n c root ≡ asked_total (flags n order) t
  -- the total is the sum over the flags of the rows whose walk asks each, so that the choice by it rests on `EquallyAsked`
  pub asked_by_flag : (n : ℕ) (order t : List ℕ) → Fit n order t → (c : List ℕ) (used root : ℕ) → DrawnAs n order t c used root
      → asked_in_all n c root ≡ sum_over (walks_asking n c root) (below n)
  -- what refusal 10 counts for a rule made in a store: no sound cells that keep the older nodes and hold the rule use fewer records
  pub needs : (n : ℕ) (order t : List ℕ) → Fit n order t → (c d : List ℕ) (used more m : ℕ) → sound n order c used ≡ true → sound n order d more ≡ true
      → used ≤ more → ((k : ℕ) → k ≤ used + 1 → table_of n d k ≡ table_of n c k) → m ≤ more + 1 → table_of n d m ≡ t
      → used + needed n order c used t ≤ more
  -- and some use just so many
  pub suffices : (n : ℕ) (order t : List ℕ) → Fit n order t → (c : List ℕ) (used : ℕ) → sound n order c used ≡ true
      → (d : List ℕ) × (m : ℕ) × (sound n order d (used + needed n order c used t) ≡ true)
      × ((k : ℕ) → k ≤ used + 1 → table_of n d k ≡ table_of n c k) × (m ≤ used + needed n order c used t + 1) × (table_of n d m ≡ t)
  -- "When a rule is built, packed or made in a store, "no room" comes only when the result truly needs more records than are free.": where build is refused
  -- under 10, each diagram of the table in that order has more records than the cells hold
  pub no_room_built : (n used root : ℕ) (t order c d e : List ℕ) (r : Reply) → length order ≡ places → Build n t order c r d → number_of r ≡ 10
      → DrawnAs n order t e used root → room c < used
  -- where pack is, each diagram of the table in every order has
  pub no_room_packed : (n used root : ℕ) (t order c w d x e : List ℕ) (r : Reply) → Pack n t c w r d x → number_of r ≡ 10 → length order ≡ places
      → fit_order n order ≡ true → DrawnAs n order t e used root → room c < used
  -- and where a call is that makes a rule in a store, the older nodes and the rule have together
  pub no_room_made : (s s' : State) (c d : List ℕ) (x : Making) (r : Reply) → length s.places ≡ places → Make s c x r s' d → number_of r ≡ 10
      → NoRoomFor s c (made_in s.n c x)

-- ---- demand 3

-- what the table of a walk's pass rule has in its row, by the walk's answer (request 5): 1 where it is accepted, 0 where it is refused under 14
abbrev pub PassRuleSays : List ℕ → ℕ → Reply → Type 0
PassRuleSays t row r = (Accepted r → get_or t row 0 ≡ 1) × (number_of r ≡ 14 → (row < length t) × (get_or t row 0 ≡ 0))

-- "each rule in the scope paper's plain book of these calls answers, row by row, what the book has, wherever tabulating or walking it is accepted" (a walk's
-- answer is the first value that it hands back, with a pass rule or without), and "tabulating a rule in the book gives neither 6 nor 7". Where a walk, from
-- whichever node, has it for its pass rule, the book has in the walk's row what `PassRuleSays` says
pub record AnswersAs (s : State) (c : List ℕ) (m : ℕ) (t : List ℕ) : Type 0 where
  pub tabulated : (bytes after : List ℕ) (r : Reply) (s' : State) → Tabulate s c m bytes r s' after → Accepted r → after ≡ t
  pub walked : (pass : Option ℕ) (row a : ℕ) (more : List ℕ) (r : Reply) (s' : State) → Walk s c m pass row r s' → Gives r (a ∷ more) → a ≡ get_or t row 0
  pub as_pass_rule : (k row : ℕ) (r : Reply) (s' : State) → Walk s c k (some m) row r s' → PassRuleSays t row r
  pub there : (bytes after : List ℕ) (r : Reply) (s' : State) → Tabulate s c m bytes r s' after → (number_of r ≢ 6) × (number_of r ≢ 7)

-- what two tables have, by the answer of a provoke: where it is accepted, it hands back "the lowest row" that serves; where it is refused under 15, none does
pub record ProvokedBy (rule : List ℕ) (wanted : ℕ) (pass : List ℕ) (fixed ones : ℕ) (r : Reply) : Type 0 where
  pub row_is : Accepted r
      → (row : ℕ) × Gives r (row ∷ []) × Serves rule wanted pass fixed ones row × ((other : ℕ) → Serves rule wanted pass fixed ones other → row ≤ other)
  pub none_is : number_of r ≡ 15 → NoneServes rule wanted pass fixed ones

-- a provoke of two rules in the book, by its tables of them: it answers by these, and gives neither 6 nor 7
abbrev pub ProvokedInBook : List ℕ → ℕ → List ℕ → ℕ → ℕ → Reply → Type 0
ProvokedInBook t wanted u fixed ones r = ProvokedBy t wanted u fixed ones r × (number_of r ≢ 6) × (number_of r ≢ 7)

-- "a row for which it says no can't happen": by the pass rule's table, if there is one
abbrev pub forbidden : Option (List ℕ) → ℕ → Bool
forbidden none row = false
forbidden (some t) row = says_no t row

-- what is tested of a log (request 9), by the pass rule's table
abbrev pub log_rows_by : ℕ → Option (List ℕ) → List ℕ → List Row
log_rows_by n pass log = log_length log ∷ flat_map (λ row. row_argument n row ∷ (forbidden pass row, 14) ∷ []) (snapshots log)

-- the tally of a log by a rule's table alone and the order that the rule is drawn in
abbrev pub tally_by : ℕ → List ℕ → List ℕ → List ℕ → List ℕ
tally_by n order t log = tally_of n (played_by (flags n order) t (snapshots log))

-- the reply to a log by the tables of the rule and of its pass rule, if it has one, past 1 to 7
abbrev pub ReplayedBy : ℕ → List ℕ → List ℕ → Option (List ℕ) → List ℕ → Reply → Type 0
ReplayedBy n order t pass log r = r ≡ reply (refusal (log_rows_by n pass log)) (tally_by n order t log)

-- the reply where both rules are in the book, by its tables: past 1 and 4, which a refused open may have left in the state, there are no tests but the log's
abbrev pub ReplayedInBook : ℕ → List ℕ → List ℕ → Option (List ℕ) → List ℕ → Reply → Type 0
ReplayedInBook n order t pass log r = r ≡ reply (refusal (flag_count n ∷ order_places n order ∷ log_rows_by n pass log)) (tally_by n order t log)

-- the table that the book has of a pass rule, if one is given
abbrev pub PassInBook : Book → Option ℕ → Option (List ℕ) → Type 0
PassInBook b none u = u ≡ none
PassInBook b (some p) u = (t : List ℕ) × (u ≡ some t) × (in_book b p ≡ some t)

-- "its packed diagram tabulates to that same table; the node count handed back is the number of its records, and every other order of the flags draws
-- the table with at least as many"
pub record PackedWell (n : ℕ) (t order : List ℕ) (nodes root : ℕ) (d : List ℕ) : Type 0 where
  pub stands : StandsFor n order t d nodes root
  pub fewest : (other cells : List ℕ) (used top : ℕ) → length other ≡ places → fit_order n other ≡ true → DrawnAs n other t cells used top → nodes ≤ used
  -- "Of two orders with equal node counts, battery life prefers the one that asks less.": of the orders that draw the table with as many nodes, none's walks
  -- over all 2^n rows ask fewer flags in total (request 6)
  pub shortest : (other cells : List ℕ) (top : ℕ) → length other ≡ places → fit_order n other ≡ true → DrawnAs n other t cells nodes top
      → asked_in_all n d root ≤ asked_in_all n cells top
  -- "and only then goes by dictionary comparison": no order that draws it with as many nodes and asks as many flags stands before this one
  pub first : (other cells : List ℕ) (top : ℕ) → length other ≡ places → fit_order n other ≡ true → DrawnAs n other t cells nodes top
      → asked_in_all n cells top ≡ asked_in_all n d root → Lex (flags n order) (flags n other)

-- "To bring out a rule is to tabulate it and pack the table, as left, into cells other than the store's, both calls being accepted."
abbrev pub BroughtOut : State → List ℕ → ℕ → List ℕ → Type 0
BroughtOut s c m t =
    (bytes after : List ℕ) (r : Reply) (s' : State) → Tabulate s c m bytes r s' after → Accepted r
    → (n nodes root : ℕ) (order cells w d x : List ℕ) (p : Reply) → Pack n after cells w p d x → Gives p (nodes ∷ root ∷ order)
    → PackedWell n t order nodes root d

-- what holds of rule t at node m of the book after the list
pub record RuleKept (s : State) (c : List ℕ) (m : ℕ) (t : List ℕ) : Type 0 where
  pub answers : AnswersAs s c m t
  pub brought_out : BroughtOut s c m t

-- "a table written over an older one equals it": so at call e, unless it is an accepted open, which wipes the book
abbrev pub Agrees : Book → Fed → Type 0
Agrees b e = (m : ℕ) (t u : List ℕ) → in_book b m ≡ some t → in_book (enter b e) m ≡ some u → (Opens e → ⊥) → t ≡ u

-- of a walk under a pass rule that is in the book (request 5): the book has in the walk's row what `PassRuleSays` says; of a provoke of a rule and a pass rule
-- that are both in the book (request 8): what `ProvokedInBook` says; of a replay of such a rule, under such a pass rule or none (request 9), that it gives
-- neither 6 nor 7 (the log is lent bytes, which what is fed leaves out: what a replay answers is said of one after the list, and so after each part of it)
abbrev pub QueryObeys : Book → Query → Reply → Type 0
QueryObeys b (tabulating m) r = Unit {0}
QueryObeys b (walking m none row) r = Unit {0}
QueryObeys b (walking m (some p) row) r = (t : List ℕ) → in_book b p ≡ some t → PassRuleSays t row r
QueryObeys b (provoking m wanted p fixed ones) r = (t u : List ℕ) → in_book b m ≡ some t → in_book b p ≡ some u → ProvokedInBook t wanted u fixed ones r
QueryObeys b (replaying m pass) r =
    (t : List ℕ) (u : Option (List ℕ)) → in_book b m ≡ some t → PassInBook b pass u → (number_of r ≢ 6) × (number_of r ≢ 7)

-- of any other call nothing is said
abbrev pub ObeysBy : Book → Asked → Reply → Type 0
ObeysBy b (open_call given) r = Unit {0}
ObeysBy b (constant_call v) r = Unit {0}
ObeysBy b (making_call x) r = Unit {0}
ObeysBy b (query_call q) r = QueryObeys b q r

-- so at call e
abbrev pub Obeys : Book → Fed → Type 0
Obeys b e = ObeysBy b e.asked e.answer

-- what is said of a call and the book before it holds at every call of a list, as the book is fed one after the other
abbrev pub Throughout : (Book → Fed → Type 0) → Book → List Fed → Type 0
Throughout P b [] = Unit {0}
Throughout P b (e ∷ es) = P b e × Throughout P (enter b e) es

-- "The set asked before a flag is the flags standing before it in the order": the same set for two orders
abbrev pub SameBefore : ℕ → ℕ → List ℕ → List ℕ → Type 0
SameBefore n v o p = (i : ℕ) → Memᴰ i (asked_before v (flags n o)) ↔ Memᴰ i (asked_before v (flags n p))

-- "for one rule, any two orders with the same set asked before a flag draw equally many nodes asking it"
abbrev pub EquallyMany : ℕ → List ℕ → Type 0
EquallyMany n t =
    (o p : List ℕ) → Fit n o t → Fit n p t → (v : ℕ) → v < n → SameBefore n v o p
    → (c d : List ℕ) (used top more root : ℕ) → DrawnAs n o t c used top → DrawnAs n p t d more root → asking c used v ≡ asking d more v

-- "The number of rows whose walk asks a flag also depends only on that flag and the set asked before it" (request 6): for one rule, and any two orders with
-- the same set asked before the flag
abbrev pub EquallyAsked : ℕ → List ℕ → Type 0
EquallyAsked n t =
    (o p : List ℕ) → Fit n o t → Fit n p t → (v : ℕ) → v < n → SameBefore n v o p
    → (c d : List ℕ) (used top more root : ℕ) → DrawnAs n o t c used top → DrawnAs n p t d more root → walks_asking n c top v ≡ walks_asking n d root v

-- what is claimed of a list of calls that has led to state s and cells c, where b is the book before it and es is what it is fed
pub record AfterList (s : State) (c : List ℕ) (b : Book) (es : List Fed) : Type 0 where
  pub kept : (m : ℕ) (t : List ℕ) → in_book (book_of b es) m ≡ some t → RuleKept s c m t
  pub provoked : (m p : ℕ) (t u : List ℕ) → in_book (book_of b es) m ≡ some t → in_book (book_of b es) p ≡ some u
      → (wanted fixed ones : ℕ) (r : Reply) (s' : State) → Provoke s c m wanted p fixed ones r s' → ProvokedInBook t wanted u fixed ones r
  -- a log that is played through a rule in the book, under a pass rule in it or none, is answered by the book's tables and the store's order (request 9)
  pub replayed : (m : ℕ) (pass : Option ℕ) (t : List ℕ) (u : Option (List ℕ)) → in_book (book_of b es) m ≡ some t → PassInBook (book_of b es) pass u
      → (log : List ℕ) (r : Reply) (s' : State) → Replay s c m pass log r s' → ReplayedInBook s.n s.places t u log r
  pub rewritten : Throughout Agrees b es
  pub obeyed : Throughout Obeys b es
  pub equally : (n : ℕ) (t : List ℕ) → EquallyMany n t
  pub equally_asked : (n : ℕ) (t : List ℕ) → EquallyAsked n t

-- Demand 3: one claim about any list of calls that begins with an accepted open, from any state, any cells and any book
abbrev pub Demand3 : Type 0
Demand3 =
    (first s : State) (cells c : List ℕ) (b : Book) (xs : List Call) → Calls first cells xs s c → BeginsOpen (feed xs) → AfterList s c b (feed xs)

-- ---- the flags asked (request 2)

-- two rows have the same values of the flags of a set
abbrev pub RowsAgreeOn : ℕ → ℕ → ℕ → Type 0
RowsAgreeOn set row other = (v : ℕ) → bit set v ≡ 1 → bit other v ≡ bit row v

-- what holds of the values that a walk from node m hands back for a row: its answer, the set of the flags asked, and their number
pub record WalkReport (n : ℕ) (order c : List ℕ) (used m row answer set count : ℕ) : Type 0 where
  -- "Answers are as before."
  pub answer_is : answer ≡ get_or (table_of n c m) row 0
  -- "a ten-bit set of the flags asked": the flag of each record passed, and no other, so that bits from n on are 0
  pub flags_are : (v : ℕ) → (bit set v ≡ 1) ↔ Memᴰ v (flags_asked c m row)
  pub below : set < 2 ^ n
  -- "and their number": no flag is asked twice
  pub set_size_lem : count ≡ set_size set
  -- "the number is that of the records passed, and is at most n"
  pub records : count ≡ length (records_passed c m row)
  pub most : count ≤ n
  -- "which flags an answer rested on": for any other row with the same values of them the walk without a pass rule is accepted with the same answer, set and
  -- number (under a pass rule that allows the other row too: `PassRule.allows` and `same`)
  pub rested : (other : ℕ) (r : Reply) → other < 2 ^ n → RowsAgreeOn set row other → Walks n order c used m none other r
      → Gives r (answer ∷ set ∷ count ∷ [])
  -- the flags asked depend on the rule, the order and the row alone: v is one of them exactly where the rule, with the flags before v fixed as in
  -- the row, depends on v
  pub by_rule : (v : ℕ) → (bit set v ≡ 1) ↔ ((v < n) × (depends v (restrict (asked_before v (flags n order)) row (table_of n c m)) ≡ true))

-- of a walk of a single diagram, and so of a store's: its `Walk` has this relation in its field `asks`
pub record FlagsReported : Type 0 where
  -- an accepted walk, with a pass rule or without, hands back three values
  pub accepts : (n used m row : ℕ) (pass : Option ℕ) (order c : List ℕ) (r : Reply) → Walks n order c used m pass row r → Accepted r
      → (answer : ℕ) × (set : ℕ) × (count : ℕ) × Gives r (answer ∷ set ∷ count ∷ []) × WalkReport n order c used m row answer set count
  -- a refused one its number and three zeros
  pub refuses : (n used m row : ℕ) (pass : Option ℕ) (order c : List ℕ) (r : Reply) → Walks n order c used m pass row r → number_of r ≢ 0
      → r ≡ refused (number_of r) (0 ∷ 0 ∷ 0 ∷ [])

-- ---- snapshots that can't happen (request 5)

-- of a walk under pass rule p, whose reply is r, beside the same walk without one, whose reply is q; and so of a store's, as above
pub record PassRule : Type 0 where
  -- without one all is as before: 1 4 5 6 7 9, and the rule's own values
  pub without : (n used m row : ℕ) (order c : List ℕ) (q : Reply) → Walks n order c used m none row q
      → q ≡ reply (refusal (flag_count n ∷ order_places n order ∷ cells c ∷ records n order c used ∷ node used m ∷ row_argument n row ∷ [])) (walk_values c m row)
  -- "a row for which it says no can't happen and is refused": under 14 exactly where the walk without a pass rule is accepted, p is a node of the cells, and
  -- p's table has 0 in that row
  pub forbids : (n used m p row : ℕ) (order c : List ℕ) (q r : Reply) → Walks n order c used m none row q → Walks n order c used m (some p) row r
      → (number_of r ≡ 14) ↔ (Accepted q × (p ≤ used + 1) × (get_or (table_of n c p) row 0 ≡ 0))
  -- accepted exactly where the walk without one is, p is a node of the cells, and p's table has 1 in that row
  pub allows : (n used m p row : ℕ) (order c : List ℕ) (q r : Reply) → Walks n order c used m none row q → Walks n order c used m (some p) row r
      → Accepted r ↔ (Accepted q × (p ≤ used + 1) × (get_or (table_of n c p) row 0 ≡ 1))
  -- and then with the same values: "The flags a walk reports are the rule's own."
  pub same : (n used m p row : ℕ) (order c : List ℕ) (q r : Reply) → Walks n order c used m none row q → Walks n order c used m (some p) row r
      → Accepted r → r ≡ q
  -- what is refused without one is refused alike; where p is no node of the cells, a walk is 7 that would be accepted or 9
  pub refuses : (n used m p row : ℕ) (order c : List ℕ) (q r : Reply) → Walks n order c used m none row q → Walks n order c used m (some p) row r
      → (number_of q ≢ 0 → number_of q ≢ 9 → r ≡ q) × (number_of q ≡ 9 → p ≤ used + 1 → r ≡ q)
      × (number_of q ≡ 0 → used + 1 < p → number_of r ≡ 7) × (number_of q ≡ 9 → used + 1 < p → number_of r ≡ 7)
  -- the pass rule "yes" is the same as none
  pub yes : (n used m row : ℕ) (order c : List ℕ) (r : Reply) → Walks n order c used m (some 1) row r ↔ Walks n order c used m none row r

-- ---- a snapshot to provoke a release (request 8)

-- what refusal 9 asks of a provoke: no "wanted answer above 1", no "set bit at or above n", no "1 outside the fixed set"
pub record AimFits (n wanted fixed ones : ℕ) : Type 0 where
  pub wanted_fits : wanted ≤ 1
  pub fixed_below : (i : ℕ) → bit fixed i ≡ 1 → i < n
  pub ones_below : (i : ℕ) → bit ones i ≡ 1 → i < n
  pub ones_fixed_lem : (i : ℕ) → bit ones i ≡ 1 → bit fixed i ≡ 1

-- what its other checks ask of the cells and the two nodes, and replay's (request 9): none of 1 4 5 6, 7 for the rule, 7 for the pass rule
pub record NodesFit (n used m p : ℕ) (order c : List ℕ) : Type 0 where
  pub few : n ≤ 10
  pub order_fits : fit_order n order ≡ true
  pub lent : fit_cells c ≡ true
  pub is_sound : sound n order c used ≡ true
  pub rule : m ≤ used + 1
  pub pass_rule : p ≤ used + 1

-- of a provoke of rule m under pass rule p, and so of a store's: its `Provoke` has this relation in its field `asks`
pub record Provocation : Type 0 where
  -- "Hand back the lowest row that the pass rule allows, that has the fixed values and gives the wanted answer."
  pub lowest : (n used m wanted p fixed ones : ℕ) (order c : List ℕ) (r : Reply) → Provokes n order c used m wanted p fixed ones r
      → ProvokedBy (table_of n c m) wanted (table_of n c p) fixed ones r
  -- "Past the other checks, refuse exactly when there is no such row": under 15
  pub none : (n used m wanted p fixed ones : ℕ) (order c : List ℕ) (r : Reply) → Provokes n order c used m wanted p fixed ones r
      → (number_of r ≡ 15) ↔ (NodesFit n used m p order c × AimFits n wanted fixed ones × NoneServes (table_of n c m) wanted (table_of n c p) fixed ones)
  -- and accepted exactly when there is one
  pub some_row : (n used m wanted p fixed ones : ℕ) (order c : List ℕ) (r : Reply) → Provokes n order c used m wanted p fixed ones r
      → Accepted r
      ↔ (NodesFit n used m p order c × AimFits n wanted fixed ones × ((row : ℕ) × Serves (table_of n c m) wanted (table_of n c p) fixed ones row))
  -- "a wanted answer above 1, a set bit at or above n, or a 1 outside the fixed set, gives 9"
  pub nine : (n used m wanted p fixed ones : ℕ) (order c : List ℕ) (r : Reply) → Provokes n order c used m wanted p fixed ones r
      → (number_of r ≡ 9) ↔ (NodesFit n used m p order c × (AimFits n wanted fixed ones → ⊥))
  -- a refusal hands back its number and a zero; any other number comes of the cells and the two nodes alone, whatever is wanted and fixed; it is never 14
  pub refuses : (n used m wanted p fixed ones : ℕ) (order c : List ℕ) (r : Reply) → Provokes n order c used m wanted p fixed ones r → number_of r ≢ 0
      → (r ≡ refused (number_of r) (0 ∷ []))
      × (number_of r ≢ 9 → number_of r ≢ 15
      → number_of r ≡ refusal (flag_count n ∷ order_places n order ∷ cells c ∷ records n order c used ∷ node used m ∷ node used p ∷ []))
      × (number_of r ≢ 14)
  -- "which is a fact about the tables and not about the walk": where the same two tables stand in other cells, under another order or in another sequence, and
  -- both calls are past 1 to 7, both answer alike
  pub alike : (n used m used' m' wanted p p' fixed ones : ℕ) (order c order' c' : List ℕ) (r q : Reply) → Provokes n order c used m wanted p fixed ones r
      → Provokes n order' c' used' m' wanted p' fixed ones q → NodesFit n used m p order c → NodesFit n used' m' p' order' c'
      → table_of n c m ≡ table_of n c' m' → table_of n c p ≡ table_of n c' p' → r ≡ q
  -- "wants a row to play": walking the rule for it, under that pass rule, is accepted and answers what was wanted
  pub played : (n used m wanted p fixed ones row : ℕ) (order c : List ℕ) (r q : Reply) → Provokes n order c used m wanted p fixed ones r → Gives r (row ∷ [])
      → Walks n order c used m (some p) row q → (set : ℕ) × (count : ℕ) × Gives q (wanted ∷ set ∷ count ∷ [])
  -- who has no pass rule gives node 1, which allows each row
  pub every_row_lem : (n row : ℕ) (c : List ℕ) → row < 2 ^ n → get_or (table_of n c 1) row 0 ≡ 1

-- ---- playing a rig log (request 9)

-- what 16 asks of a log: whole snapshots, and at most 65,534 bytes
pub record LogFits (log : List ℕ) : Type 0 where
  pub whole : length log % 2 ≡ 0
  pub short : length log ≤ most_log

-- n, the order, the cells, the rule and the pass rule, where one is given, are fit ("yes" is fit always)
abbrev pub RulesFit : ℕ → ℕ → ℕ → Option ℕ → List ℕ → List ℕ → Type 0
RulesFit n used m pass order c = NodesFit n used m (Option.get_or pass 1) order c

-- the pass rule's table, where one is given
abbrev pub pass_table : ℕ → List ℕ → Option ℕ → Option (List ℕ)
pass_table n c none = none
pass_table n c (some p) = some (table_of n c p)

-- walks from one node for these rows, under one pass rule or none, and their replies
abbrev pub WalksFor : ℕ → List ℕ → List ℕ → ℕ → ℕ → Option ℕ → List ℕ → List Reply → Type 0
WalksFor n order c used m pass [] [] = Unit {0}
WalksFor n order c used m pass [] (q ∷ qs) = ⊥
WalksFor n order c used m pass (row ∷ rows) [] = ⊥
WalksFor n order c used m pass (row ∷ rows) (q ∷ qs) = Walks n order c used m pass row q × WalksFor n order c used m pass rows qs

-- what an accepted walk tells of a snapshot: its answer, and the set of the flags asked
abbrev pub told_by : Reply → Played
told_by q = (value_at q 0, value_at q 1)

-- the number of the first reply that is refused, 0 where none is
abbrev pub first_refused : List Reply → ℕ
first_refused [] = 0
first_refused (accepted values ∷ qs) = first_refused qs
first_refused (refused k values ∷ qs) = k

-- of a log that is played through node m, and so of a store's: its `Replay` has this relation in its field `asks`
pub record RigLog : Type 0 where
  -- "Each number equals that of a plain pass over the log using the rule's table and the walk's flags": past 1 to 7 the reply is that of the two tables and
  -- the order alone
  pub by_tables : (n used m : ℕ) (pass : Option ℕ) (order c log : List ℕ) (r : Reply) → Replays n order c used m pass log r
      → RulesFit n used m pass order c → ReplayedBy n order (table_of n c m) (pass_table n c pass) log r
  -- a log is accepted exactly where these are fit, it meets no 16, and the walk for each snapshot, under that pass rule, is accepted; the tally is then that
  -- of what these walks tell
  pub accepts : (n used m : ℕ) (pass : Option ℕ) (order c log : List ℕ) (r : Reply) (qs : List Reply) → Replays n order c used m pass log r
      → WalksFor n order c used m pass (snapshots log) qs → Accepted r ↔ (RulesFit n used m pass order c × LogFits log × (first_refused qs ≡ 0))
  pub as_walked : (n used m : ℕ) (pass : Option ℕ) (order c log : List ℕ) (r : Reply) (qs : List Reply) → Replays n order c used m pass log r
      → WalksFor n order c used m pass (snapshots log) qs → Accepted r → Gives r (tally_of n (map told_by qs))
  -- "a row not below 2^n gives 9, a forbidden one 14, the earliest in the log first": past the other checks it is refused as the first of these walks that is
  pub earliest : (n used m : ℕ) (pass : Option ℕ) (order c log : List ℕ) (r : Reply) (qs : List Reply) → Replays n order c used m pass log r
      → WalksFor n order c used m pass (snapshots log) qs → RulesFit n used m pass order c → LogFits log → number_of r ≡ first_refused qs
  -- "16, log of odd length or above 65,534 bytes, tested after 7 and before its rows"
  pub sixteen : (n used m : ℕ) (pass : Option ℕ) (order c log : List ℕ) (r : Reply) → Replays n order c used m pass log r
      → (number_of r ≡ 16) ↔ (RulesFit n used m pass order c × (LogFits log → ⊥))
  -- what is tested ahead of the log comes first, whatever the log
  pub ahead : (n used m : ℕ) (pass : Option ℕ) (order c log : List ℕ) (r : Reply) → Replays n order c used m pass log r
      → refusal (pass_rows n order c used m pass []) ≢ 0 → number_of r ≡ refusal (pass_rows n order c used m pass [])
  -- "A refused log gives no tally": its number and zeros; a number other than 9, 14 and 16 comes of what is tested ahead of the log
  pub refuses : (n used m : ℕ) (pass : Option ℕ) (order c log : List ℕ) (r : Reply) → Replays n order c used m pass log r → number_of r ≢ 0
      → (r ≡ refused (number_of r) (replicate tally_numbers 0))
      × (number_of r ≢ 9 → number_of r ≢ 14 → number_of r ≢ 16 → number_of r ≡ refusal (pass_rows n order c used m pass []))
  -- "An empty log tallies zeros."
  pub empty : (n used m : ℕ) (pass : Option ℕ) (order c : List ℕ) (r : Reply) → Replays n order c used m pass [] r → RulesFit n used m pass order c
      → Gives r (replicate tally_numbers 0)
  -- "At most 32,767 snapshots are played": all of the log's, and no other number of the tally is above the number played
  pub most : (n used m : ℕ) (pass : Option ℕ) (order c log : List ℕ) (r : Reply) → Replays n order c used m pass log r → Accepted r
      → (value_at r 0 * 2 ≡ length log) × (value_at r 0 ≤ 32767) × ((i : ℕ) → value_at r i ≤ value_at r 0)
  -- for a line that is taken the program prints the reply to the log when it is played, without a pass rule, through the line's table "drawn in the rising
  -- order", in whichever cells
  pub printed : (input c : List ℕ) (used root : ℕ) (r : Reply) → refusal (line_rows (read_line input).0) ≡ 0 → fit_cells c ≡ true
      → DrawnAs (flags_of (read_line input).0) (rising (flags_of (read_line input).0)) (rows_of (read_line input).0) c used root
      → Replays (flags_of (read_line input).0) (rising (flags_of (read_line input).0)) c used root none (read_line input).1 r
      → rig_tally input ≡ printed_tally (flags_of (read_line input).0) r
  -- and for one that is refused its number, whatever the log
  pub unprinted : (input : List ℕ) → refusal (line_rows (read_line input).0) ≢ 0 → rig_tally input ≡ word_line "refused" (refusal (line_rows (read_line input).0))

-- ---- the packed order

-- what an accepted pack hands back: "The order has the fewest nodes of all n! orders", and of several it is the one that request 6 names
abbrev pub PackedOrder : Type 0
PackedOrder =
    (n nodes root : ℕ) (t order c w d x : List ℕ) (r : Reply) → Pack n t c w r d x → Gives r (nodes ∷ root ∷ order) → PackedWell n t order nodes root d

-- ---- one sequence (document 02, request 3)

-- table t under the order, as an accepted build, pack or read left it in the cells d, with so many used records and this root
pub data Left (n : ℕ) (order t : List ℕ) (used root : ℕ) (d : List ℕ) : Type 0 where
  built : (c : List ℕ) (r : Reply) → length order ≡ places → Build n t order c r d → Gives r (used ∷ root ∷ []) → Left n order t used root d
  packed : (c w x : List ℕ) (r : Reply) → Pack n t c w r d x → Gives r (used ∷ root ∷ order) → Left n order t used root d
  read : (file c : List ℕ) (r : Reply) → Reads file c r d → Gives r (n ∷ used ∷ root ∷ order) → table_of n d root ≡ t → Left n order t used root d

pub record OneSequence : Type 0 where
  -- where there is room, `drawing` draws the table, and its records stand "by level, the flag asked last coming first, and within a level by rising low node,
  -- then rising high node"
  pub draws : (n : ℕ) (order t : List ℕ) → Fit n order t → (c : List ℕ) → size (flags n order) t ≤ room c
      → DrawnAs n order t (drawing n order t c) (size (flags n order) t) (root_by (size (flags n order) t) t)
      × (in_sequence n order (drawing n order t c) (size (flags n order) t) ≡ true)
  -- and whatever draws the table and stands so has these used cells
  pub only : (n : ℕ) (order t : List ℕ) → Fit n order t → (d : List ℕ) (used root : ℕ) → DrawnAs n order t d used root → in_sequence n order d used ≡ true
      → (c : List ℕ) → used ≤ room c → take (used * width) d ≡ take (used * width) (drawing n order t c)
  -- "In every diagram that is built, packed or read, records stand" so
  pub in_sequence_lem : (n used root : ℕ) (order t d : List ℕ) → Left n order t used root d → in_sequence n order d used ≡ true
  -- "What build, pack and the reader leave is no longer free: the same table under the same order has the same used cells." "Production compares loaded joints
  -- cell by cell, so two loads of one rule must be equal.": all the cells, where as many are lent
  pub same_loads : (n used root more top : ℕ) (order t d e : List ℕ) → Left n order t used root d → Left n order t more top e
      → (used ≡ more) × (root ≡ top) × (take (used * width) d ≡ take (more * width) e) × (length d ≡ length e → d ≡ e)
  -- "Files in another permitted sequence are still read; their records are put in sequence on loading.": as they are filed they draw the table that the cells
  -- left draw, so that each is there (`Demand2.one-diagram`)
  pub filed : (n used root : ℕ) (order file c d : List ℕ) (r : Reply) → Reads file c r d → Gives r (n ∷ used ∷ root ∷ order)
      → DrawnAs n order (table_of n d root) (laid_in c (records_filed (reading c file))) used root

-- ---- rule files

-- a rule's file: an accepted write left these bytes, as many as it handed back
pub record WrittenAs (n used root : ℕ) (order c label file : List ℕ) : Type 0 where
  pub bytes : List ℕ
  pub after : List ℕ
  pub answer : Reply
  pub writes : Writes n order c used root label bytes answer after
  pub handed_back : Gives answer (length file ∷ [])
  pub file_is : take (length file) after ≡ file

-- the label of a file that is read into these cells: the bytes that `Label` hands out
abbrev pub label_read : List ℕ → List ℕ → List ℕ
label_read cells file = bytes_of (label_of (reading cells file)) file

pub record RuleFiles : Type 0 where
  -- what the reader leaves is up to ten flags in a fit order, and sound cells in which every record is reached (and stands for one table: `Demand2.read`)
  pub is_diagram : (n nodes root : ℕ) (order file cells d : List ℕ) (r : Reply) → Reads file cells r d → Gives r (n ∷ nodes ∷ root ∷ order)
      → (n ≤ 10) × (fit_order n order ≡ true) × (diagram n order d nodes root ≡ true)
  -- what the writer writes the reader reads to the same n, order, label, record count and root, and to the same rule in sequence, into any cells that hold its
  -- records; cells past them are 0. Where the writer's records stood in sequence, they are those
  pub read_back : (n used root : ℕ) (order c label file cells d : List ℕ) (r : Reply) → length order ≡ places → WrittenAs n used root order c label file
      → fit_cells cells ≡ true → used ≤ room cells → Reads file cells r d
      → Gives r (n ∷ used ∷ root ∷ order) × (label_read cells file ≡ label) × (d ≡ drawing n order (table_of n c root) cells)
      × (in_sequence n order c used ≡ true → d ≡ laid_in cells (records_in c used))
  -- into as many cells as the writer's: the same cells, just where the writer's records stood in sequence
  pub same_cells : (n used root : ℕ) (order c label file cells d : List ℕ) (r : Reply) → length order ≡ places → WrittenAs n used root order c label file
      → length cells ≡ length c → Reads file cells r d
      → Gives r (n ∷ used ∷ root ∷ order) × (label_read cells file ≡ label) × ((d ≡ c) ↔ (in_sequence n order c used ≡ true))
  -- it is refused under 10 just where the cells don't hold the records
  pub no_room : (n used root : ℕ) (order c label file cells d : List ℕ) (r : Reply) → length order ≡ places → WrittenAs n used root order c label file
      → fit_cells cells ≡ true → Reads file cells r d → (number_of r ≡ 10) ↔ (room cells < used)
  -- what the reader took from a written file, handed to the writer with bytes enough, is written to as many bytes, and to the same bytes just where the
  -- first writer's records stood in sequence
  pub again : (n used root n' used' root' : ℕ) (order c label file cells d order' bytes after : List ℕ) (r q : Reply) → length order ≡ places
      → WrittenAs n used root order c label file → Reads file cells r d → Gives r (n' ∷ used' ∷ root' ∷ order')
      → length file ≤ length bytes → Writes n' order' d used' root' (label_read cells file) bytes q after
      → Gives q (length file ∷ []) × ((take (length file) after ≡ file) ↔ (in_sequence n order c used ≡ true))
  -- so from the second writing on the bytes no longer change: what the reader took from any file is written to bytes that, read and written again, come back
  pub settled : (n used root n' used' root' : ℕ) (order file c d label written cells e order' bytes after : List ℕ) (r p q : Reply)
      → Reads file c r d → Gives r (n ∷ used ∷ root ∷ order) → WrittenAs n used root order d label written
      → Reads written cells p e → Gives p (n' ∷ used' ∷ root' ∷ order')
      → length written ≤ length bytes → Writes n' order' e used' root' (label_read cells written) bytes q after
      → Gives q (length written ∷ []) × (take (length written) after ≡ written)

-- ---- the printed sheet (document 02, request 4)

-- the records that some pages give back, their nodes left out
abbrev pub records_read : ℕ → List ℕ → List RecordValues
records_read pages bytes = map (λ e. e.1) (read_pages pages bytes)

pub record PrintedSheet : Type 0 where
  -- "pages of 60 lines, each 20 characters and a line end (0A)": of every diagram that check accepts
  pub lines : (n used root : ℕ) (order c : List ℕ) (r : Reply) → Check n order c used root r → Accepted r
      → (length (sheet_lines c used) ≡ pages_for used * page_lines) × (each (λ line. eqb (length line) line_length) (sheet_lines c used) ≡ true)
      × (lines_in (pages_for used * page_lines) (sheet c used) ≡ sheet_lines c used) × (length (sheet c used) ≡ pages_for used * page_bytes)
  -- "a lent page buffer that is too short gives 10, tested last": what check refuses, print refuses under the same number; what check accepts, it prints where
  -- the bytes of so many pages are lent, and refuses under 10 where fewer are. A refusal leaves the bytes as they were
  pub refuses : (n used root : ℕ) (order c bytes after : List ℕ) (q r : Reply) → Check n order c used root q → Prints n order c used root bytes r after
      → (number_of q ≢ 0 → (number_of r ≡ number_of q) × (after ≡ bytes))
      × (number_of q ≡ 0 → length bytes < pages_for used * page_bytes → (number_of r ≡ 10) × (after ≡ bytes))
      × (number_of q ≡ 0 → pages_for used * page_bytes ≤ length bytes → Gives r (pages_for used ∷ []))
  -- "The pages give back every record": read from the bytes that an accepted call left, as many pages as it handed back give each used record, with its node
  pub records : (n used root pages : ℕ) (order c bytes after : List ℕ) (r : Reply) → Prints n order c used root bytes r after → Gives r (pages ∷ [])
      → read_pages pages after ≡ map (λ k. (k + 2, record_in c k)) (below used)
  -- and each cell: laid in any cells that hold them, the records are the used cells that were printed; in as many cells they are all of them
  pub cells : (n used root pages : ℕ) (order c bytes after : List ℕ) (r : Reply) → Prints n order c used root bytes r after → Gives r (pages ∷ [])
      → (d : List ℕ) → used ≤ room d
      → (take (used * width) (laid_in d (records_read pages after)) ≡ take (used * width) c) × (length d ≡ length c → laid_in d (records_read pages after) ≡ c)
  -- "n, the order and an end-node root aren't printed": where two diagrams have the same records, their pages are the same (any other root is the last node
  -- printed: `Demand2.root-last`)
  pub alone : (n m used root top pages more : ℕ) (order other c d bytes lent after left : List ℕ) (r q : Reply)
      → Prints n order c used root bytes r after → Gives r (pages ∷ []) → Prints m other d used top lent q left → Gives q (more ∷ [])
      → records_in d used ≡ records_in c used → (more ≡ pages) × (take (pages * page_bytes) left ≡ take (pages * page_bytes) after)
