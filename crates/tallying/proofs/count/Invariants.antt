-- `tallying::count` meets its contract: the places before the index are counted, and those from it on are as they were.
-- Assumes nothing.
use mathlib.Core.Path.{◌≡◌}
use lib.ListN.{length, drop}
use Rattle.tallying.specs.Tally.{counted}
use Rattle.tallying.proofs.Counted.{up_to}
use Rattle.tallying.proofs.count.Given as goal

abbrev pub invariant-loop-count : goal.invariant-loop-count
invariant-loop-count l = (up_to l.count-index l.count-items l.rest ≡ counted l.fn.asked l.flags) × (drop l.count-index l.count-items ≡ drop l.count-index l.fn.asked) × (length l.count-items ≡ 10)
