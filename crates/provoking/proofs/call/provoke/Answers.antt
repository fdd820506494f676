-- `provoking::call::provoke` meets its contract: the search starts from what passed the tests, and what it finds is an answer of Answer.antt.
-- Assumes nothing.
use Rattle.provoking.proofs.Answer.{starts, row_missing, row_found}
use Rattle.provoking.proofs.call.provoke.Goals as goal

pub lowest-row-requires : goal.lowest-row-requires
lowest-row-requires c = let a = c.args in starts _ _ _ _ _ a.wanted _ _ _ c.in_ok-test_nodes.ensures c.in_ok-test_aim.ensures

pub returns-then-row-eq-NO_ROW : goal.returns-then-row-eq-NO_ROW
returns-then-row-eq-NO_ROW c =
    row_missing _ _ _ _ _ _ _ _ _ c.in_ok-test_nodes.ensures c.in_ok-test_aim.ensures c.lowest-row.ensures c.if-row-eq-NO_ROW.true

pub returns : goal.returns
returns c =
    row_found _ _ _ _ _ _ _ _ _ c.in_ok-test_nodes.ensures c.in_ok-test_aim.ensures c.lowest-row.ensures c.if-row-eq-NO_ROW.false
