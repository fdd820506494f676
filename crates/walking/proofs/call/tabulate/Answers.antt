-- `walking::call::tabulate` meets its contract: each way is an answer of Answer.antt.
-- Assumes nothing.
use mathlib.Core.Path.{sym, ◌∙◌}
use native.Mathlib.Omega.{arith}
use Rattle.std.proofs.lemmas.Result.{err_from_is_err_and}
use Rattle.theory.proofs.Refused.{positive}
use Rattle.walking.proofs.Answer.{few_used, tabulate_long, tabulate_refused, tabulate_far, tabulate_start, tabulate_done}
use Rattle.walking.proofs.call.tabulate.Goals as goal

pub returns-then-bytes-row_count : goal.returns-then-bytes-row_count
returns-then-bytes-row_count c = tabulate_long _ _ _ _ _ _ c.if-n-gt10.false (λ e. c.if-bytes-row_count.true (e ∙ sym c.row_count.ensures))

pub returns-in_err-test_records : goal.returns-in_err-test_records
returns-in_err-test_records c =
    let p = err_from_is_err_and c.from_residual.result c.from_residual.ensures.1 in
    rw (p.1, p.2) (tabulate_refused _ _ _ _ _ _ c.if-n-gt10.false (c.if-bytes-row_count.false ∙ c.row_count.ensures) c.in_err-test_records.ensures.0 (positive _))

pub overflow_add-used : goal.overflow_add-used
overflow_add-used c = omega (arith, few_used _ _ _ _ c.in_ok-test_records.ensures.0)

pub returns-then-used-from : goal.returns-then-used-from
returns-then-used-from c =
    tabulate_far _ _ _ _ _ _ c.if-n-gt10.false (c.if-bytes-row_count.false ∙ c.row_count.ensures) c.in_ok-test_records.ensures.0 c.if-used-from.true

pub fill-requires : goal.fill-requires
fill-requires c =
    tabulate_start _ _ _ _ _ _ c.if-n-gt10.false (c.if-bytes-row_count.false ∙ c.row_count.ensures) c.in_ok-test_records.ensures.0 (omega (arith, c.if-used-from.false))

pub returns : goal.returns
returns c =
    tabulate_done _ _ _ _ _ _ c.if-n-gt10.false (c.if-bytes-row_count.false ∙ c.row_count.ensures) c.in_ok-test_records.ensures.0 c.if-used-from.false c.fill.ensures
