-- `packing::call::pack` meets its contract: each way is an answer of Answer.antt.
-- Assumes nothing.
use Rattle.std.proofs.lemmas.Result.{err_from_is_err_and}
use Rattle.theory.proofs.Refused.{positive}
use Rattle.packing.proofs.Answer.{lent_fit, refused_early, refused_late, packed_drawn}
use Rattle.packing.proofs.call.pack.Goals as goal

pub returns-in_err-test_lent : goal.returns-in_err-test_lent
returns-in_err-test_lent c =
    let p = err_from_is_err_and c.from_residual.result c.from_residual.ensures.1 in
    rw (p.1, p.2) (refused_early _ _ _ _ c.in_err-test_lent.ensures (positive _))

pub search-order-requires : goal.search-order-requires
search-order-requires c =
    let g = lent_fit _ _ _ _ c.in_ok-test_lent.ensures in
    (g.few, g.rows, g.lent)

pub returns-in_err-drawn : goal.returns-in_err-drawn
returns-in_err-drawn c =
    let p = err_from_is_err_and c.from_residual-in_err-drawn.result c.from_residual-in_err-drawn.ensures.1 in
    rw (p.1, p.2)
    (refused_late _ _ _ _ c.in_ok-test_lent.ensures c.search-order.ensures.order c.search-order.ensures.lent (c.fill.ensures.after (λ y e. e)) c.in_err-drawn.ensures)

pub returns : goal.returns
returns c =
    packed_drawn _ _ _ _ c.in_ok-test_lent.ensures c.search-order.ensures.order c.search-order.ensures.lent (c.fill.ensures.after (λ y e. e)) c.in_ok-drawn.ensures
