-- Lists of store calls (demand 3) and the plain book beside them (document 01, "The book beside the store"). "Store calls that are added later join the list": one that
-- makes a rule is one more case of `Making`, "those that make no rule" of `Query` (both in Results.antt).
-- Assumes nothing.
use Rattle.std.specs.Prelude.{◌≡◌, Bool, true, false, cond, List, [], ◌∷◌, map, ℕ, eqb}
use Rattle.std.proofs.Math.Option.{Option, none, some, get_or}
use Rattle.rule.specs.Tests.{each}
use Rattle.rule.specs.Results.{constant_table, Making, rules_among, made_from, Query}
use Rattle.rule.specs.Reply.{Reply, accepted, refused, Accepted}
use Rattle.rule.specs.Calls.{State, Open, Constant, Make, Ask}

-- ---- the list of calls

-- a store call with its arguments; nodes are given by their numbers
pub data Asked : Type 0 where
  -- "an open may be given any state"; any other call is given it "as the last one left" it
  open_call : (given : State) → Asked
  constant_call : (v : ℕ) → Asked
  -- flag, join, choose, fix
  making_call : (x : Making) → Asked
  -- tabulate, walk, provoke, replay
  query_call : (q : Query) → Asked

-- a call as it was made: what was asked and lent, the answer, and what it left. Of lent bytes only a query's are spoken of: no other call is lent any.
pub record Call : Type 0 where
  pub asked : Asked
  pub lent : List ℕ
  pub answer : Reply
  pub state : State
  pub cells : List ℕ
  pub bytes : List ℕ

-- what call x left is as the contract of what was asked says, where it was given state s (open its own) and cells c
abbrev pub MeetsBy : Asked → State → List ℕ → Call → Type 0
MeetsBy (open_call given) s c x = Open given c x.answer x.state x.cells
MeetsBy (constant_call v) s c x = Constant s c v x.answer x.state x.cells
MeetsBy (making_call y) s c x = Make s c y x.answer x.state x.cells
MeetsBy (query_call q) s c x = Ask s c q x.lent x.answer x.state x.bytes × (x.cells ≡ c)

-- the call met its contract, where the last one left state s and cells c
abbrev pub Meets : State → List ℕ → Call → Type 0
Meets s c x = MeetsBy x.asked s c x

-- "Each call is given the cells and state as the last one left them .., and nobody else writes them": calls from state s and cells c to state s' and cells d
abbrev pub Calls : State → List ℕ → List Call → State → List ℕ → Type 0
Calls s c [] s' d = (s' ≡ s) × (d ≡ c)
Calls s c (x ∷ xs) s' d = Meets s c x × Calls x.state x.cells xs s' d

-- what the plain book "is fed" of a call: "each store call's arguments and its answer"
pub record Fed : Type 0 where
  pub asked : Asked
  pub answer : Reply

abbrev pub fed_of : Call → Fed
fed_of x = record { asked = x.asked; answer = x.answer }

-- what each call of a list feeds it
abbrev pub feed : List Call → List Fed
feed = map fed_of

abbrev pub OpensBy : Asked → Reply → Type 0
OpensBy (open_call given) r = Accepted r
OpensBy (constant_call v) r = ⊥
OpensBy (making_call x) r = ⊥
OpensBy (query_call q) r = ⊥

-- it is of an accepted open
abbrev pub Opens : Fed → Type 0
Opens e = OpensBy e.asked e.answer

-- "begins with an accepted open"
abbrev pub BeginsOpen : List Fed → Type 0
BeginsOpen [] = ⊥
BeginsOpen (e ∷ es) = Opens e

-- ---- the plain book

-- "It holds n and, at some node numbers, a table of 2^n rows": the newest first
pub record Book : Type 0 where
  pub n : ℕ
  pub rules : List (ℕ × List ℕ)

unfoldable pub lookup : ℕ → List (ℕ × List ℕ) → Option (List ℕ)
lookup m [] = none
lookup m (p ∷ ps) = cond (eqb p.0 m) (some p.1) (lookup m ps)

-- the table that the book has at a node number, if any
abbrev pub in_book : Book → ℕ → Option (List ℕ)
in_book b m = lookup m b.rules

abbrev pub is_there : Option (List ℕ) → Bool
is_there none = false
is_there (some t) = true

-- the table at a node number that has one
abbrev pub rule_at : Book → ℕ → List ℕ
rule_at b m = get_or (in_book b m) []

-- the table that a call makes of the book's rules: "Where a rule among the arguments isn't in the book, nothing is written."
abbrev pub made_in_book : Book → Making → Option (List ℕ)
made_in_book b x = cond (each (λ m. is_there (in_book b m)) (rules_among x)) (some (made_from b.n (rule_at b) x)) none

-- "writes a table at the node number handed back, over an older one"
abbrev pub write_at : ℕ → Option (List ℕ) → Book → Book
write_at m none b = b
write_at m (some t) b = record { n = b.n; rules = (m, t) ∷ b.rules }

-- an accepted call writes "at the node number handed back"; "every refused call .. write[s] nothing"
abbrev pub write_made : Reply → Option (List ℕ) → Book → Book
write_made (accepted []) t b = b
write_made (accepted (m ∷ values)) t b = write_at m t b
write_made (refused k values) t b = b

-- "An accepted open wipes the book, takes n from the state given, and writes the all-no table at 0 and the all-yes table at 1."
abbrev pub opened : Reply → ℕ → Book → Book
opened (accepted values) n b = record { n = n; rules = (0, constant_table n 0) ∷ (1, constant_table n 1) ∷ [] }
opened (refused k values) n b = b

-- what an accepted call writes: "An accepted constant, flag, join, choose or fix writes a table at the node number handed back"; "Tabulate, walk .. write
-- nothing", and of calls that are added later "those that make no rule"
abbrev pub enter_by : Book → Asked → Reply → Book
enter_by b (open_call given) r = opened r given.n b
enter_by b (constant_call v) r = write_made r (some (constant_table b.n v)) b
enter_by b (making_call x) r = write_made r (made_in_book b x) b
enter_by b (query_call q) r = b

-- the book "is fed each store call's arguments and its answer"
abbrev pub enter : Book → Fed → Book
enter b e = enter_by b e.asked e.answer

-- the book fed a list of calls
abbrev pub book_of : Book → List Fed → Book
book_of b [] = b
book_of b (e ∷ es) = book_of (enter b e) es
