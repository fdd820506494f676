-- `refusing::making::test_fix` meets its contract: a refusal of the node, which is tested three times, is that of all rows.
-- Assumes nothing.
use mathlib.Core.List.{[], ◌∷◌}
use Rattle.std.proofs.lemmas.Result.{err_from_is_err_and}
use Rattle.rule.specs.Refusals.{flag_argument, value_argument}
use Rattle.theory.proofs.Refused.{positive}
use Rattle.refusing.proofs.Rows.{then_refused, one_node}
use Rattle.refusing.proofs.making.test_fix.Goals as goal

pub returns-in_err-test_nodes : goal.returns-in_err-test_nodes
returns-in_err-test_nodes c =
    let s = c.args in
    let p = err_from_is_err_and c.from_residual.result c.from_residual.ensures.1 in
    rw (p.1, p.2) (then_refused (flag_argument s.n s.i ∷ value_argument s.value ∷ []) (one_node s.n s.order.places s.cells.now s.used s.m c.in_err-test_nodes.ensures) (positive _))
