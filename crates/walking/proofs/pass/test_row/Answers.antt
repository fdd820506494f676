-- `walking::pass::test_row` meets its contract: a row that is there is forbidden or taken by the walk.
-- Assumes nothing.
use native.Mathlib.Omega.{arith}
use Rattle.walking.proofs.Passing.{row_forbidden, row_taken}
use Rattle.walking.proofs.pass.test_row.Goals as goal

pub returns-then-passing-eq0 : goal.returns-then-passing-eq0
returns-then-passing-eq0 c =
    let a = c.args in
    row_forbidden a.n a.cells.now a.pass a.row (omega (arith, c.row_count.ensures, c.if-row_count-row.false)) c.descend-passing.ensures.end_value c.if-passing-eq0.true

pub returns : goal.returns
returns c =
    let a = c.args in
    row_taken a.n a.cells.now a.pass a.row (omega (arith, c.row_count.ensures, c.if-row_count-row.false)) c.descend-passing.ensures.end_value c.if-passing-eq0.false
