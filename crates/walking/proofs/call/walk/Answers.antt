-- `walking::call::walk` meets its contract: past the tests of the cells the records are few, and both nodes can be walked.
-- Assumes nothing.
use native.Mathlib.Omega.{arith}
use Rattle.std.proofs.lemmas.Result.{err_from_is_err_and}
use Rattle.theory.proofs.Refused.{positive}
use Rattle.walking.proofs.Answer.{few, few_used, walkable, says_lt, asks_le, row_refused}
use Rattle.walking.proofs.call.walk.Goals as goal

pub overflow_add-last : goal.overflow_add-last
overflow_add-last c = omega (arith, few_used _ _ _ _ c.in_ok-test_records.ensures.0)

pub test_row-requires : goal.test_row-requires
test_row-requires c =
    (few _ _ _ _ c.in_ok-test_records.ensures.0, walkable _ _ _ _ c.in_ok-test_records.ensures.0 (omega (arith, c.if-last-passing.false)))

pub returns-in_err-test_row : goal.returns-in_err-test_row
returns-in_err-test_row c =
    let p = err_from_is_err_and c.from_residual-in_err-test_row.result c.from_residual-in_err-test_row.ensures.1 in
    rw (p.1, p.2) (row_refused _ _ _ _ _ _ c.in_ok-test_records.ensures.0 _ c.pass_node-passing.ensures c.if-last-from.false c.if-last-passing.false c.in_err-test_row.ensures (positive _))

pub descend-descent-requires : goal.descend-descent-requires
descend-descent-requires c = walkable _ _ _ _ c.in_ok-test_records.ensures.0 (omega (arith, c.if-last-from.false))

pub overflow_cast-result : goal.overflow_cast-result
overflow_cast-result c =
    omega (arith, says_lt _ _ _ _ c.in_ok-test_records.ensures.0 _ _ c.descend-descent.ensures.end_value (omega (arith, c.if-last-from.false)))

pub overflow_cast-result-2 : goal.overflow_cast-result-2
overflow_cast-result-2 c =
    omega (arith, asks_le _ _ _ _ c.in_ok-test_records.ensures.0 _ _ c.descend-descent.ensures.count_value (omega (arith, c.if-last-from.false)))
