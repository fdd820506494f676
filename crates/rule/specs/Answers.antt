-- For every case of an answer the paper's number and values (document 01, "Where each form goes": "a definition gives this paper's number and values for
-- every case of the enum, and the promises use that definition").
-- Assumes nothing.
use Rattle.std.specs.Prelude.{[], ◌∷◌, ℕ, replicate, Result, Ok, Err}
use Rattle.rule.specs.Reply.{Reply, accepted, refused}
use Rattle.rule.specs.Order.{places}
use Rattle.rule.specs.declared.node.Node.{Node}
use Rattle.rule.specs.declared.answer.Drawn.{Drawn}
use Rattle.rule.specs.declared.answer.Said.{Said}
use Rattle.rule.specs.declared.answer.Packed.{Packed}
use Rattle.rule.specs.declared.answer.Loaded.{Loaded}
use Rattle.rule.specs.declared.refusal.Refusal.{Refusal}
use Rattle.rule.specs.declared.refusal.Refusal.TheVariants as the-refusal

-- ---- the refusals

-- the number of each row of the table
abbrev pub refusal_number : Refusal → ℕ
refusal_number the-refusal.FlagCount = 1
refusal_number the-refusal.TableLength = 2
refusal_number the-refusal.TableByte = 3
refusal_number the-refusal.OrderPlaces = 4
refusal_number the-refusal.CellsLength = 5
refusal_number the-refusal.Records = 6
refusal_number the-refusal.NodeNumber = 7
refusal_number the-refusal.WorkspaceLength = 8
refusal_number the-refusal.Argument = 9
refusal_number the-refusal.NoRoom = 10
refusal_number the-refusal.FileEnd = 11
refusal_number the-refusal.FileMap = 12
refusal_number the-refusal.FileLabel = 13
refusal_number the-refusal.ForbiddenRow = 14
refusal_number the-refusal.NoSuchRow = 15
refusal_number the-refusal.LogLength = 16

-- the number under which a test refuses, 0 where it does not
abbrev pub test_number : {A : Type 0} → Result A Refusal → ℕ
test_number (Ok _) = 0
test_number (Err k) = refusal_number k

-- ---- case by case

-- build: the node count and the root
abbrev pub drawn_reply : Result Drawn Refusal → Reply
drawn_reply (Ok d) = accepted (d.nodes ∷ d.root.number ∷ [])
drawn_reply (Err k) = refused (refusal_number k) (0 ∷ 0 ∷ [])

-- pack: the node count, the root, and the order's ten places
abbrev pub packed_reply : Result Packed Refusal → Reply
packed_reply (Ok p) = accepted (p.drawn.nodes ∷ p.drawn.root.number ∷ p.order.places)
packed_reply (Err k) = refused (refusal_number k) (0 ∷ 0 ∷ replicate places 0)

-- check: the node count; provoke: the row; write: the file's length; print: the number of pages
abbrev pub number_reply : Result ℕ Refusal → Reply
number_reply (Ok x) = accepted (x ∷ [])
number_reply (Err k) = refused (refusal_number k) (0 ∷ [])

-- open, tabulate: no value beside the state and the lent buffers
abbrev pub done_reply : Result (Unit {0}) Refusal → Reply
done_reply (Ok _) = accepted []
done_reply (Err k) = refused (refusal_number k) []

-- constant, flag, join, choose, fix: the node number
abbrev pub made_reply : Result Node Refusal → Reply
made_reply (Ok node) = accepted (node.number ∷ [])
made_reply (Err k) = refused (refusal_number k) (0 ∷ [])

-- walk: the answer, the set of the flags asked, and their number
abbrev pub said_reply : Result Said Refusal → Reply
said_reply (Ok s) = accepted (s.answer ∷ s.asked ∷ s.count ∷ [])
said_reply (Err k) = refused (refusal_number k) (0 ∷ 0 ∷ 0 ∷ [])

-- read: n, the record count, the root, and the order's ten places
abbrev pub loaded_reply : Result Loaded Refusal → Reply
loaded_reply (Ok l) = accepted (l.n ∷ l.records ∷ l.root.number ∷ l.order.places)
loaded_reply (Err k) = refused (refusal_number k) (0 ∷ 0 ∷ 0 ∷ replicate places 0)
