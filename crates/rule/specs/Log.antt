-- A rig log, and the tally of a rule that it is played through (document 02, request 9).
-- Assumes nothing.
use Rattle.std.specs.Prelude.{cond, List, [], ◌∷◌, map, ℕ, ◌+◌, ◌*◌, eqb, length, get_or}
use Rattle.rule.specs.Bits.{bit, below}
use Rattle.rule.specs.Tests.{keep}
use Rattle.rule.specs.Level.{asked_by}
use Rattle.rule.specs.Order.{in_places}
use Rattle.rule.specs.Sets.{flag_set}
use Rattle.rule.specs.Walk.{flags_asked, table_of}

-- "A log is snapshots of two bytes each, low byte first, the row number": the rows, in the log's sequence (a log with a byte left over is refused under 16)
unfoldable pub snapshots : List ℕ → List ℕ
snapshots [] = []
snapshots (low ∷ []) = []
snapshots (low ∷ high ∷ log) = (low + 256 * high) ∷ snapshots log

-- a snapshot as it was played: the rule's answer, and the set of the flags asked
abbrev pub Played : Type 0
Played = ℕ × ℕ

-- the snapshots of these rows, where `answer` has the rule's answer for a row and `asks` the flags that its walk asks
unfoldable pub played : (ℕ → ℕ) → (ℕ → List ℕ) → List ℕ → List Played
played answer asks rows = map (λ row. (answer row, flag_set (asks row))) rows

-- through node m of cells c: "using the rule's table and the walk's flags"
abbrev pub played_in : ℕ → List ℕ → ℕ → List ℕ → List Played
played_in n c m rows = played (λ row. get_or (table_of n c m) row 0) (flags_asked c m) rows

-- through a table drawn in an order: the flags that its walks ask are known from these two alone (Level.antt)
abbrev pub played_by : List ℕ → List ℕ → List ℕ → List Played
played_by order t rows = played (λ row. get_or t row 0) (asked_by order t) rows

-- ---- the tally, each number counted apart

-- "yes answers"
unfoldable pub yes_answers : List Played → ℕ
yes_answers ps = length (keep (λ p. eqb p.0 1) ps)

-- how often the answer changes behind a snapshot whose answer is `last`
unfoldable pub changes_behind : ℕ → List Played → ℕ
changes_behind last [] = 0
changes_behind last (p ∷ ps) = cond (eqb p.0 last) 0 1 + changes_behind p.0 ps

-- "changes of answer": "The first snapshot isn't a change."
unfoldable pub changes : List Played → ℕ
changes [] = 0
changes (p ∷ ps) = changes_behind p.0 ps

-- for a flag v, "how often it was asked"
unfoldable pub times_asked : List Played → ℕ → ℕ
times_asked ps v = length (keep (λ p. eqb (bit p.1 v) 1) ps)

-- how many numbers a tally has: three, and one in each of ten places
abbrev pub tally_numbers : ℕ
tally_numbers = 13

-- "snapshots played, yes answers, changes of answer, and for each of the n flags, flag 0 first, how often it was asked": these in ten places, 0 from n on
abbrev pub tally_of : ℕ → List Played → List ℕ
tally_of n ps = length ps ∷ yes_answers ps ∷ changes ps ∷ in_places (map (times_asked ps) (below n))
