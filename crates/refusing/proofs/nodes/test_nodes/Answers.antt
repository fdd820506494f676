-- `refusing::nodes::test_nodes` meets its contract: a refusal of the cells is that of all rows, and cells that pass hold few records.
-- Assumes nothing.
use mathlib.Core.List.{[], ◌∷◌, map}
use native.Mathlib.Omega.{arith}
use Rattle.std.proofs.lemmas.Result.{err_from_is_err_and}
use Rattle.rule.specs.Refusals.{node}
use Rattle.theory.proofs.Refused.{positive}
use Rattle.checking.proofs.Refused.{rows_passed}
use Rattle.refusing.proofs.Rows.{then_refused, cells_tested, few_used}
use Rattle.refusing.proofs.nodes.test_nodes.Goals as goal

pub returns-in_err-test_records : goal.returns-in_err-test_records
returns-in_err-test_records c =
    let s = c.args in
    let p = err_from_is_err_and c.from_residual.result c.from_residual.ensures.1 in
    rw (p.1, p.2) (then_refused (map (node s.used) (s.f ∷ s.g ∷ s.h ∷ [])) (cells_tested s.n s.order.places s.cells.now s.used c.in_err-test_records.ensures) (positive _))

pub overflow_add-last : goal.overflow_add-last
overflow_add-last c = omega (arith, few_used _ _ _ _ (rows_passed _ _ _ _ c.in_ok-test_records.ensures.0))
