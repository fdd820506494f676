-- `words::lines::each` meets its contract: the line stands in the buffer, and fewer may follow each time.
-- Assumes nothing.
use Rattle.std.proofs.Common.{◌≡◌, ◌<◌, ℕ, Option, None, Some, IfSome, length}
use Rattle.words.specs.Held.{Held}
use Rattle.words.specs.declared.lines.Line.{Line}
use Rattle.words.proofs.lines.each.Given as goal

abbrev pub invariant-loop-found : goal.invariant-loop-found
invariant-loop-found g l =
    goal.F-IsAlwaysCallable g l.call
    × (length l.buffer ≡ length l.initial.buffer)
    × IfSome l.found (λ line. Held line l.buffer × (0 < line.left))

-- the lines that may yet be asked for
abbrev pub left_of : Option Line → ℕ
left_of None = 0
left_of (Some line) = line.left

abbrev pub decreases-loop-found : goal.decreases-loop-found
decreases-loop-found g l = left_of l.found
