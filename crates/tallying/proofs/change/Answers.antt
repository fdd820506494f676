-- `tallying::change` meets its contract.
-- Assumes nothing.
use borrow.Author.Tests.{eq-eqb, ne_eqb}
use Rattle.tallying.specs.Tally.{changed}
use Rattle.tallying.proofs.change.Goals as goal

pub returns-then-played-eq0 : goal.returns-then-played-eq0
unfolding changed
returns-then-played-eq0 c = rw (eq-eqb _ _ c.if-played-eq0.true)

pub returns-then-answer-last : goal.returns-then-answer-last
unfolding changed
returns-then-answer-last c = rw (ne_eqb _ _ c.if-played-eq0.false, eq-eqb _ _ c.if-answer-last.true)

pub returns : goal.returns
unfolding changed
returns c = rw (ne_eqb _ _ c.if-played-eq0.false, ne_eqb _ _ c.if-answer-last.false)
