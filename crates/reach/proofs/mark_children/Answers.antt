-- `reach::mark_children` meets its contract: the children of the records passed are marked.
-- Assumes nothing.
use native.Mathlib.Omega.{arith}
use Rattle.theory.proofs.Shape.{children_smaller_lem}
use Rattle.reach.proofs.Marks.{marked_none, marked_more}
use Rattle.reach.proofs.mark_children.Goals as goal

pub loop-j-init : goal.loop-j-init
loop-j-init c = rw c.requires.3 (marked_none _)

pub mark-requires : goal.mark-requires
mark-requires c =
    let p = c.requires in
    omega (arith, c.low_at.ensures, p.0, p.1, ((children_smaller_lem _ _).0 p.2 c.loop-j.j c.loop-j-test.true).0)

pub mark-requires-in-loop-j : goal.mark-requires-in-loop-j
mark-requires-in-loop-j c =
    let p = c.requires in
    omega (arith, c.high_at.ensures, p.0, p.1, ((children_smaller_lem _ _).0 p.2 c.loop-j.j c.loop-j-test.true).1)

pub loop-j-preserved : goal.loop-j-preserved
loop-j-preserved c =
    let p = c.requires in
    let small = (children_smaller_lem _ _).0 p.2 c.loop-j.j c.loop-j-test.true in
    rw (c.mark-in-loop-j.ensures, c.mark.ensures)
    (marked_more c.loop-j.invariant c.low_at.ensures c.high_at.ensures
    (omega (arith, c.low_at.ensures, p.0, p.1, small.0))
    (omega (arith, c.high_at.ensures, p.0, p.1, small.1)))
