-- `tallying::count` meets its contract: the places before the index are counted, and those from it on are as they were.
-- Assumes nothing.
use mathlib.Core.Path.{sym, ◌∙◌}
use native.Mathlib.Omega.{arith}
use lib.ListN.{length-set}
use Rattle.tallying.proofs.Counted.{up_to-more, up_to_all, from_more, from_at}
use Rattle.tallying.proofs.count.Goals as goal

pub overflow_add-count : goal.overflow_add-count
overflow_add-count c =
    let at = c.loop-count in
    omega (arith, from_at at.count-index at.count-items c.args.asked at.invariant.1, c.requires at.count-index)

pub loop-count-preserved : goal.loop-count-preserved
loop-count-preserved c =
    let at = c.loop-count in
    let i = at.count-index in
    (up_to-more i at.count-items at.rest (omega arith) ∙ at.invariant.0, from_more i _ at.count-items _ at.invariant.1, simp length-set at.invariant.2)

pub returns : goal.returns
returns c =
    let at = c.loop-count in
    sym (up_to_all at.count-index at.count-items at.rest (omega arith)) ∙ at.invariant.0
