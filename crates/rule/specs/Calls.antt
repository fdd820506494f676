-- Each call's outcome: a relation between what it is given and what it leaves, accepted or refused (document 01). A call's contract is exactly its
-- relation here, at its answer's reply; the file calls are in Files.antt, print in Sheet.antt. What the papers leave free is the sequence of a store's
-- records, with the node numbers that follow from it. Buffers that are lent to be read alone (a table, a log, the cells of check, walk, tabulate, provoke,
-- replay, write and print) stay as they are: the language sees to it.
-- Assumes nothing.
use Rattle.std.specs.Prelude.{◌≡◌, true, cond, ◌||◌, List, [], ◌∷◌, ℕ, zero, suc, ◌+◌, ◌*◌, ◌≤◌, ◌<◌, eqb, length, take, replicate}
use Rattle.std.proofs.Math.Option.{Option}
use Rattle.rule.specs.Tests.{among}
use Rattle.rule.specs.Level.{size}
use Rattle.rule.specs.Order.{flags, in_places, packed}
use Rattle.rule.specs.Cells.{width}
use Rattle.rule.specs.Walk.{table_of}
use Rattle.rule.specs.Sound.{sound}
use Rattle.rule.specs.Sequence.{drawing}
use Rattle.rule.specs.Results.{Making, flag, join, choose, fix, made_in, lacking, needed, root_by, made_node, Query, tabulating, walking, provoking, replaying, answered}
use Rattle.rule.specs.Refusals.{refusal, build_rows, check_rows, query_rows, open_rows, constant_rows, making_rows, pack_rows}
use Rattle.rule.specs.Reply.{Reply, reply, leaves}

-- ---- single diagrams

-- "Build takes n, a table, an order and cells, and hands back the node count and the root, with the diagram in the cells": in the one sequence (request 3)
pub record Build (n : ℕ) (t order c : List ℕ) (r : Reply) (d : List ℕ) : Type 0 where
  pub answer : r ≡ reply (refusal (build_rows n t order c)) (size (flags n order) t ∷ root_by (size (flags n order) t) t ∷ [])
  pub cells : d ≡ leaves (refusal (build_rows n t order c)) (drawing n order t c) c

-- "Check takes n, an order, cells, the number of used records and a root, and hands back the node count."
abbrev pub Check : ℕ → List ℕ → List ℕ → ℕ → ℕ → Reply → Type 0
Check n order c used root r = r ≡ reply (refusal (check_rows n order c used root)) (used ∷ [])

-- what becomes of the bytes lent to a call that makes no rule, under a refusal's number: tabulate alone writes them
abbrev pub lent_after : ℕ → ℕ → List ℕ → Query → List ℕ → List ℕ
lent_after k n c (tabulating m) lent = leaves k (table_of n c m) lent
lent_after k n c (walking m pass row) lent = lent
lent_after k n c (provoking m wanted p fixed ones) lent = lent
lent_after k n c (replaying m pass) log = log

-- a call that makes no rule: "these .. take any node of sound cells"
pub record Asks (n : ℕ) (order c : List ℕ) (used : ℕ) (q : Query) (lent : List ℕ) (r : Reply) (after : List ℕ) : Type 0 where
  pub answer : r ≡ reply (refusal (query_rows n order c used q lent)) (answered n c q lent)
  pub bytes_are : after ≡ lent_after (refusal (query_rows n order c used q lent)) n c q lent

-- "A walk .. hands back the answer", and "beside its answer, a ten-bit set of the flags asked and their number" (request 2): for one row, which
-- the pass rule that it "may be given" may forbid (request 5); it is lent no bytes
abbrev pub Walks : ℕ → List ℕ → List ℕ → ℕ → ℕ → Option ℕ → ℕ → Reply → Type 0
Walks n order c used m pass row r = Asks n order c used (walking m pass row) [] r []

-- "Hand back the lowest row that the pass rule allows, that has the fixed values and gives the wanted answer" (request 8); it is lent no bytes
abbrev pub Provokes : ℕ → List ℕ → List ℕ → ℕ → ℕ → ℕ → ℕ → ℕ → ℕ → Reply → Type 0
Provokes n order c used m wanted p fixed ones r = Asks n order c used (provoking m wanted p fixed ones) [] r []

-- "Playing a rig log through a rule" (request 9); the log is left as it is
abbrev pub Replays : ℕ → List ℕ → List ℕ → ℕ → ℕ → Option ℕ → List ℕ → Reply → Type 0
Replays n order c used m pass log r = Asks n order c used (replaying m pass) log r log

-- "tabulate a rule into lent bytes"
abbrev pub Tabulates : ℕ → List ℕ → List ℕ → ℕ → ℕ → List ℕ → Reply → List ℕ → Type 0
Tabulates n order c used m bytes r after = Asks n order c used (tabulating m) bytes r after

-- ---- the store

-- "The store's state goes into each call and comes back: n, the order, the number of records used."
pub record State : Type 0 where
  pub n : ℕ
  pub places : List ℕ
  pub used : ℕ

-- the state with another number of records used
abbrev pub with_used : State → ℕ → State
with_used s used = record { n = s.n; places = s.places; used = used }

-- the state "comes back" from a call that makes no rule as it was given
pub record Ask (s : State) (c : List ℕ) (q : Query) (lent : List ℕ) (r : Reply) (s' : State) (after : List ℕ) : Type 0 where
  pub state : s' ≡ s
  pub asks : Asks s.n s.places c s.used q lent r after

abbrev pub Walk : State → List ℕ → ℕ → Option ℕ → ℕ → Reply → State → Type 0
Walk s c m pass row r s' = Ask s c (walking m pass row) [] r s' []

abbrev pub Provoke : State → List ℕ → ℕ → ℕ → ℕ → ℕ → ℕ → Reply → State → Type 0
Provoke s c m wanted p fixed ones r s' = Ask s c (provoking m wanted p fixed ones) [] r s' []

abbrev pub Replay : State → List ℕ → ℕ → Option ℕ → List ℕ → Reply → State → Type 0
Replay s c m pass log r s' = Ask s c (replaying m pass) log r s' log

abbrev pub Tabulate : State → List ℕ → ℕ → List ℕ → Reply → State → List ℕ → Type 0
Tabulate s c m bytes r s' after = Ask s c (tabulating m) bytes r s' after

-- "open: takes n and the order from the state it is given, with any used number, clears all the cells, and sets used to 0"
pub record Open (s : State) (c : List ℕ) (r : Reply) (s' : State) (d : List ℕ) : Type 0 where
  pub state : s' ≡ leaves (refusal (open_rows s.n s.places c)) (with_used s 0) s
  pub answer : r ≡ reply (refusal (open_rows s.n s.places c)) []
  pub cells : d ≡ leaves (refusal (open_rows s.n s.places c)) (replicate (length c) 0) c

-- "constant": an end node, for which no record is needed
pub record Constant (s : State) (c : List ℕ) (v : ℕ) (r : Reply) (s' : State) (d : List ℕ) : Type 0 where
  pub answer : r ≡ reply (refusal (constant_rows s.n s.places c s.used v)) (v ∷ [])
  pub state : s' ≡ s
  pub cells : d ≡ c

-- the cells d, once c, hold rule t at its node and what was there before: an accepted call "adds these and no others", and "older node numbers keep their
-- meaning"
pub record Holds (s : State) (c t d : List ℕ) : Type 0 where
  pub lent : length d ≡ length c
  pub is_sound : sound s.n s.places d (s.used + needed s.n s.places c s.used t) ≡ true
  pub old : take (s.used * width) d ≡ take (s.used * width) c
  pub kept : (k : ℕ) → k ≤ s.used + 1 → table_of s.n d k ≡ table_of s.n c k
  pub added : (k : ℕ) → s.used ≤ k → k < s.used + needed s.n s.places c s.used t
      → among (table_of s.n d (k + 2)) (lacking s.n s.places c s.used t) ≡ true
  pub rule : table_of s.n d (made_node s.n s.places c s.used t) ≡ t

-- what becomes of a store's cells under a refusal's number: "It alters nothing lent"
abbrev pub HoldsOr : ℕ → State → List ℕ → List ℕ → List ℕ → Type 0
HoldsOr zero s c t d = Holds s c t d
HoldsOr (suc k) s c t d = d ≡ c

-- a call that makes rule t, under a refusal's number: the node, the state and the cells
pub record Makes (k : ℕ) (s : State) (c t : List ℕ) (r : Reply) (s' : State) (d : List ℕ) : Type 0 where
  pub answer : r ≡ reply k (made_node s.n s.places c s.used t ∷ [])
  pub state : s' ≡ leaves k (with_used s (s.used + needed s.n s.places c s.used t)) s
  pub cells : HoldsOr k s c t d

-- a call that makes a rule with records, from the rules in the store
abbrev pub Make : State → List ℕ → Making → Reply → State → List ℕ → Type 0
Make s c x r s' d = Makes (refusal (making_rows s.n s.places c s.used x)) s c (made_in s.n c x) r s' d

-- "one flag"
abbrev pub Flag : State → List ℕ → ℕ → Reply → State → List ℕ → Type 0
Flag s c i r s' d = Make s c (flag i) r s' d

-- "join two rules by an operator code 0 to 15"
abbrev pub Join : State → List ℕ → ℕ → ℕ → ℕ → Reply → State → List ℕ → Type 0
Join s c code f g r s' d = Make s c (join code f g) r s' d

-- "choose: the second rule where the first says yes, else the third"
abbrev pub Choose : State → List ℕ → ℕ → ℕ → ℕ → Reply → State → List ℕ → Type 0
Choose s c f g h r s' d = Make s c (choose f g h) r s' d

-- "fix a flag to 0 or 1 in a rule"
abbrev pub Fix : State → List ℕ → ℕ → ℕ → ℕ → Reply → State → List ℕ → Type 0
Fix s c m i b r s' d = Make s c (fix m i b) r s' d

-- ---- packing

-- "An accepted pack leaves the workspace all 0 too", as 10 does; any other refusal alters nothing lent
abbrev pub workspace_after : ℕ → List ℕ → List ℕ
workspace_after k w = cond (eqb k 0 || eqb k 10) (replicate (length w) 0) w

-- "Pack takes n, a table, cells and a workspace of 16-bit cells, and hands back the order, the node count and the root, with the diagram in the cells."
pub record Pack (n : ℕ) (t c w : List ℕ) (r : Reply) (d x : List ℕ) : Type 0 where
  pub answer : r
      ≡ reply (refusal (pack_rows n t c w)) (size (packed n t) t ∷ root_by (size (packed n t) t) t ∷ in_places (packed n t))
  pub cells : d ≡ leaves (refusal (pack_rows n t c w)) (drawing n (in_places (packed n t)) t c) c
  pub workspace : x ≡ workspace_after (refusal (pack_rows n t c w)) w
