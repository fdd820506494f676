-- `searching::recursion::search` meets its contract: the sets before place i of the list are solved.
-- Assumes nothing.
use mathlib.Core.Path.{◌∙◌}
use mathlib.Core.Logic.{inl, inr}
use native.Mathlib.Omega.{arith}
use Rattle.searching.proofs.Searching.{table_within, table_fits, begun_lent, searching_none, ready, searching_pass, searching_more, members, searched}
use Rattle.searching.proofs.recursion.search.Goals as goal
use Rattle.searching.proofs.recursion.search.Goals.{then-set-ne0+then-set-rows, else-set-ne0, else-set-ne0-via-then-set-ne0+else-set-rows, else-set-ne0-via-else-set-ne0}

pub slice_bounds-begin-end : goal.slice_bounds-begin-end
slice_bounds-begin-end c =
    omega (arith, table_within c.args.n c.args.table.now c.requires.0 c.requires.1, c.requires.2)

pub begin-requires : goal.begin-requires
begin-requires c =
    table_fits c.args.n c.args.table.now c.requires.0 c.requires.1 c.args.workspace.now c.requires.2

pub loop-i-init : goal.loop-i-init
loop-i-init c =
    let p = c.requires in
    searching_none _ _ p.0 p.1 _ p.2 c.begin.ensures

pub solve-requires : goal.solve-requires
solve-requires c =
    let p = c.requires in
    let s = c.loop-i.invariant in
    (ready _ _ p.0 p.1 s c.loop-i-test.true c.set_at-set.ensures c.starts-starts.ensures c.if-set-ne0.true c.if-set-rows.true, s.bounded)

pub loop-i-preserved : goal.loop-i-preserved
loop-i-preserved c =
    let p = c.requires in
    let s = c.loop-i.invariant in
    let h = c.loop-i-test.true in
    let a = c.set_at-set.ensures in
    elim c.if-set-ne0.branch [
      | then-set-ne0+then-set-rows w ↦
          rw (w.workspace-is, w.least-is, w.first-is)
          (searching_more _ _ p.0 p.1 s h a (ready _ _ p.0 p.1 s h a c.starts-starts.ensures w.if-set-ne0.true w.if-set-rows.true) w.solve.ensures)
      | else-set-ne0 w ↦
          rw (w.workspace-is, w.least-is, w.first-is)
          (searching_pass _ _ p.0 p.1 s h a
          (elim w.else-set-ne0.branch [
            | else-set-ne0-via-then-set-ne0+else-set-rows x ↦ inr x.if-set-rows.false
            | else-set-ne0-via-else-set-ne0 x ↦ inl x.if-set-ne0.false
          ]))
    ]

pub follow-requires : goal.follow-requires
follow-requires c =
    let p = c.requires in
    members _ _ p.0 p.1 c.loop-i.invariant c.loop-i-test.false

pub shape_of-workspace : goal.shape_of-workspace
shape_of-workspace c =
    let s = c.loop-i.invariant in
    let p = c.requires in
    s.lent ∙ begun_lent _ _ p.0 p.1 _ p.2 c.begin.ensures

pub returns : goal.returns
returns c =
    let p = c.requires in
    searched _ _ p.0 p.1 c.loop-i.invariant c.loop-i-test.false (begun_lent _ _ p.0 p.1 _ p.2 c.begin.ensures) c.follow.ensures
