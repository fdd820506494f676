-- `parsing::line::is_enough` meets its contract: more than a table's rows, or the last byte ends the line.
-- Assumes nothing.
use mathlib.Core.Path.{ap, ◌∙◌}
use mathlib.Core.Bool.{not}
use borrow.Author.Rules.{rules}
use borrow.Author.Tests.{lt-ltb, le-ltb}
use Rattle.parsing.specs.Final.{enough}
use Rattle.parsing.proofs.Enough.{none-enough}
use Rattle.parsing.proofs.line.is_enough.Goals as goal

pub returns-then-input-gt-MOST_ROWS : goal.returns-then-input-gt-MOST_ROWS
unfolding enough
returns-then-input-gt-MOST_ROWS c = rw (lt-ltb _ _ c.if-input-gt-MOST_ROWS.true)

pub returns-then-not-is_empty : goal.returns-then-not-is_empty
unfolding enough
returns-then-not-is_empty c = rw (le-ltb _ _ c.if-input-gt-MOST_ROWS.false)

pub returns-else-not-is_empty : goal.returns-else-not-is_empty
returns-else-not-is_empty c = ap not c.if-not-is_empty.false ∙ none-enough _ (search rules)
