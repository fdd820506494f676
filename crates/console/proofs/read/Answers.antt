-- `console::read` meets its contract: what is enough is final, and so are more bytes than a table has rows.
-- Assumes nothing.
use Rattle.std.proofs.Common.{◌≡◌, ◌<◌, true, List, ℕ, length, take, refl, sym, ◌∙◌, arith}
use native.Mathlib.Nat.{sub-zero}
use borrow.Author.Tests.{lt-ltb}
use lib.Seq.{length-take-le}
use Rattle.rule.specs.Listing.{most_rows}
use Rattle.parsing.specs.Final.{enough}
use Rattle.parsing.proofs.Enough.{enough_final}
use Rattle.console.proofs.read.Goals as goal

many-enough : (l : List ℕ) → most_rows < length l → enough l ≡ true
unfolding enough
many-enough l h = rw (lt-ltb most_rows (length l) h) refl

pub returns-then-is_enough : goal.returns-then-is_enough
returns-then-is_enough c =
    (omega arith, λ e. rw sub-zero at (enough_final _ (sym c.is_enough.ensures ∙ c.if-is_enough.true)))

pub returns : goal.returns
returns c =
    let l = c.loop-i.input in
    (omega arith, λ e. enough_final _ (many-enough (take (length l) l) (omega (arith, length-take-le (length l) l (omega arith), c.requires, c.loop-i.invariant.1))))
