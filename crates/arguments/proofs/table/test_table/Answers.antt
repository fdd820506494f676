-- `arguments::table::test_table` meets its contract: each way rewrites with the tests that led to it.
-- Assumes nothing.
use mathlib.Core.Path.{sym, ◌∙◌}
use borrow.Author.Tests.{le-ltb, eq-eqb, ne_eqb}
use Rattle.rule.specs.Table.{fit_length}
use Rattle.arguments.proofs.table.test_table.Goals as goal

pub returns-then-table-row_count : goal.returns-then-table-row_count
unfolding fit_length
returns-then-table-row_count c =
    rw (le-ltb _ _ c.if-n-gt10.false, ne_eqb _ _ (λ e. c.if-table-row_count.true (e ∙ sym c.row_count.ensures)))

pub returns-then-not-fit_rows : goal.returns-then-not-fit_rows
unfolding fit_length
returns-then-not-fit_rows c =
    rw
    (le-ltb _ _ c.if-n-gt10.false, eq-eqb _ _ (c.if-table-row_count.false ∙ c.row_count.ensures), sym c.fit_rows.ensures ∙ c.if-not-fit_rows.true)

pub returns : goal.returns
unfolding fit_length
returns c =
    rw
    (le-ltb _ _ c.if-n-gt10.false, eq-eqb _ _ (c.if-table-row_count.false ∙ c.row_count.ensures), sym c.fit_rows.ensures ∙ c.if-not-fit_rows.false)
