-- The calls that make a rule, the tables that they make, and the records that a result needs; the calls that make none, and what they hand back (document 01,
-- "The store", "The book beside the store" and, of a root, "Tables, orders, nodes"; what a walk hands back: request 2, its pass rule: request 5; provoke:
-- request 8; replay, which plays a log: request 9).
-- Assumes nothing.
use Rattle.std.specs.Prelude.{true, false, not, cond, List, [], ◌∷◌, map, ℕ, ◌+◌, ◌*◌, ◌-◌, ◌/◌, ◌%◌, ◌^◌, eqb, length, get_or}
use Rattle.std.proofs.Math.Option.{Option}
use Rattle.rule.specs.Bits.{bit, below}
use Rattle.rule.specs.Tests.{keep, same, among}
use Rattle.rule.specs.Table.{tabled, cofactor}
use Rattle.rule.specs.Level.{nodes_of}
use Rattle.rule.specs.Order.{flags}
use Rattle.rule.specs.Cells.{room}
use Rattle.rule.specs.Walk.{walk_values, table_of}
use Rattle.rule.specs.Provoke.{serving_in}
use Rattle.rule.specs.Log.{snapshots, played_in, tally_of}

-- "the constant"
abbrev pub constant_table : ℕ → ℕ → List ℕ
constant_table n v = tabled n (λ r. v)

-- "bit i of r for flag i"
abbrev pub flag_table : ℕ → ℕ → List ℕ
flag_table n i = tabled n (λ r. bit r i)

-- The sixteen operators. "its four digits answer for (first, second) = 00, 01, 10, 11 from the left"
abbrev pub digit : ℕ → ℕ → ℕ → ℕ
digit code a b = code / 2 ^ (3 - (2 * a + b)) % 2

-- Apply. "the operator's digit for row r of the two rules"
abbrev pub join_table : ℕ → ℕ → List ℕ → List ℕ → List ℕ
join_table n code f g = tabled n (λ r. digit code (get_or f r 0) (get_or g r 0))

-- If-then-else. "row r of the second rule where the first has 1 there, else of the third"
abbrev pub choose_table : ℕ → List ℕ → List ℕ → List ℕ → List ℕ
choose_table n f g h = tabled n (λ r. cond (eqb (get_or f r 0) 1) (get_or g r 0) (get_or h r 0))

-- (Restrict: "the rule's row whose number is r with bit i set to the fixed value" is `cofactor` of Table.antt.)

-- ---- the calls that make a rule

-- a call that makes a rule with records, and its arguments; nodes are given by their numbers
pub data Making : Type 0 where
  -- "one flag"
  flag : (i : ℕ) → Making
  -- "join two rules by an operator code 0 to 15"
  join : (code f g : ℕ) → Making
  -- "choose: the second rule where the first says yes, else the third"
  choose : (f g h : ℕ) → Making
  -- "fix a flag to 0 or 1 in a rule"
  fix : (m i b : ℕ) → Making

-- the rules among its arguments, by their nodes
abbrev pub rules_among : Making → List ℕ
rules_among (flag i) = []
rules_among (join code f g) = f ∷ g ∷ []
rules_among (choose f g h) = f ∷ g ∷ h ∷ []
rules_among (fix m i b) = m ∷ []

-- the table that it makes, where `rule` has the table of each node
abbrev pub made_from : ℕ → (ℕ → List ℕ) → Making → List ℕ
made_from n rule (flag i) = flag_table n i
made_from n rule (join code f g) = join_table n code (rule f) (rule g)
made_from n rule (choose f g h) = choose_table n (rule f) (rule g) (rule h)
made_from n rule (fix m i b) = cofactor i b (rule m)

-- the table that it makes in a store's cells
abbrev pub made_in : ℕ → List ℕ → Making → List ℕ
made_in n c x = made_from n (table_of n c) x

-- ---- the records that a result needs

-- the tables of the used records
abbrev pub record_tables : ℕ → List ℕ → ℕ → List (List ℕ)
record_tables n c used = map (λ k. table_of n c (k + 2)) (below used)

-- "The records that a result needs are those of its own diagram that the store lacks": by their tables, and their number
unfoldable pub lacking : ℕ → List ℕ → List ℕ → ℕ → List ℕ → List (List ℕ)
lacking n order c used t = keep (λ u. not (among u (record_tables n c used))) (nodes_of (flags n order) t)

abbrev pub needed : ℕ → List ℕ → List ℕ → ℕ → List ℕ → ℕ
needed n order c used t = length (lacking n order c used t)

-- the records that are free
abbrev pub free : List ℕ → ℕ → ℕ
free c used = room c - used

-- "its root is its last record, or an end node when there are none": the root of the diagram of t that has so many records
abbrev pub root_by : ℕ → List ℕ → ℕ
root_by nodes t = cond (eqb nodes 0) (get_or t 0 0) (nodes + 1)

-- the first of these nodes whose rule is t
unfoldable pub first_with : ℕ → List ℕ → List ℕ → List ℕ → ℕ
first_with n c t [] = 0
first_with n c t (m ∷ ms) = elim (same (table_of n c m) t) [ true ↦ m | false ↦ first_with n c t ms ]

-- the node of a rule that a call makes: the one that the store has of it, or the last of the records that are added
abbrev pub made_node : ℕ → List ℕ → List ℕ → ℕ → List ℕ → ℕ
made_node n order c used t =
    cond (eqb (needed n order c used t) 0) (first_with n c t (below (used + 2))) (used + needed n order c used t + 1)

-- ---- the calls that make no rule

-- a call that makes no rule, and its arguments
pub data Query : Type 0 where
  -- "tabulate a rule into lent bytes"
  tabulating : (m : ℕ) → Query
  -- "or walk it for one row"; it "may be given a pass rule" (request 5)
  walking : (m : ℕ) (pass : Option ℕ) (row : ℕ) → Query
  -- "names a rule, a wanted answer, a pass rule and some flags with fixed values, and wants a row to play" (request 8)
  provoking : (m wanted p fixed ones : ℕ) → Query
  -- "Playing a rig log through a rule": the lent bytes are the log; "A pass rule may be given as to a walk" (request 9)
  replaying : (m : ℕ) (pass : Option ℕ) → Query

-- the values that it hands back, with the bytes that it is lent: "The flags a walk reports are the rule's own", whatever its pass rule, and so are those that
-- the tally of a log counts; "the lowest row" that serves
abbrev pub answered : ℕ → List ℕ → Query → List ℕ → List ℕ
answered n c (tabulating m) bytes = []
answered n c (walking m pass row) bytes = walk_values c m row
answered n c (provoking m wanted p fixed ones) bytes = get_or (serving_in n c m wanted p fixed ones) 0 0 ∷ []
answered n c (replaying m pass) log = tally_of n (played_in n c m (snapshots log))
