-- `replaying::call::replay` meets its contract: each way is an answer of Answer.antt.
-- Assumes nothing.
use Rattle.std.proofs.lemmas.Result.{err_from_is_err_and}
use Rattle.rule.specs.Pass.{pass_of}
use Rattle.theory.proofs.Refused.{positive}
use Rattle.replaying.proofs.Answer.{nodes_refused, taken, rule_walks, pass_walks, log_refused, short, log_tallied}
use Rattle.replaying.proofs.call.replay.Goals as goal

pub returns-in_err-test_nodes : goal.returns-in_err-test_nodes
returns-in_err-test_nodes c =
    let p = err_from_is_err_and c.from_residual.result c.from_residual.ensures.1 in
    rw (p.1, p.2) (nodes_refused _ _ _ _ _ _ _ c.pass_node-passing.ensures c.in_err-test_nodes.ensures (positive _))

pub test_log-requires : goal.test_log-requires
test_log-requires c =
    let a = c.args in
    let e = c.pass_node-passing.ensures in (
      (taken a.n a.order.places a.cells.now a.used a.rule.number (pass_of a.pass) a.log.now e c.in_ok-test_nodes.ensures).few,
      pass_walks a.n a.order.places a.cells.now a.used a.rule.number (pass_of a.pass) a.log.now e c.in_ok-test_nodes.ensures,
    )

pub returns-in_err-test_log : goal.returns-in_err-test_log
returns-in_err-test_log c =
    let p = err_from_is_err_and c.from_residual-in_err-test_log.result c.from_residual-in_err-test_log.ensures.1 in
    rw (p.1, p.2) (log_refused _ _ _ _ _ _ _ c.pass_node-passing.ensures c.in_ok-test_nodes.ensures c.in_err-test_log.ensures (positive _))

pub tally_of-requires : goal.tally_of-requires
tally_of-requires c =
    let a = c.args in
    let e = c.pass_node-passing.ensures in (
      rule_walks a.n a.order.places a.cells.now a.used a.rule.number (pass_of a.pass) a.log.now e c.in_ok-test_nodes.ensures,
      short a.n a.order.places a.cells.now a.used a.rule.number (pass_of a.pass) a.log.now e c.in_ok-test_nodes.ensures c.in_ok-test_log.ensures,
    )

pub returns : goal.returns
returns c =
    log_tallied _ _ _ _ _ _ _ c.pass_node-passing.ensures c.in_ok-test_nodes.ensures c.in_ok-test_log.ensures c.tally_of.ensures
