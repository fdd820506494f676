-- `lister::whole::listing` meets its contract: what is listed of the first line.
-- Assumes nothing.
use native.Mathlib.Nat.{sub-zero}
use native.Mathlib.Omega.{arith}
use borrow.Author.Rules.{rules}
use Rattle.rule.specs.Listing.{listing}
use Rattle.runs.proofs.Puts.{puts_within}
use Rattle.lister.proofs.whole.listing.Goals as goal

pub returns : goal.returns
unfolding listing
returns c =
    (rw (sub-zero, c.line_end-end.ensures.1) at c.list_line.ensures, omega (arith, puts_within c.list_line.ensures (omega arith) (search rules)))
