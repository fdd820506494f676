-- `rig_tally::play::play` meets its contract: build refuses no table that is fit, and the log is played in the cells that it left.
-- Assumes nothing.
use Prim.Native.Nat.{ℕ}
use lib.ListN.{length-replicate}
use Rattle.rule.specs.Cells.{most_cells}
use Rattle.rig_tally.proofs.Drawn.{never_refused, plays}
use Rattle.rig_tally.proofs.play.play.Goals as goal

pub returns-in_err-drawn : goal.returns-in_err-drawn
returns-in_err-drawn c =
    let pre = c.requires in
    let built = rw c.rising-order.ensures at c.in_err-drawn.ensures in
    absurd (never_refused c.args.n c.args.table.now _ pre.0 pre.1 pre.2 (length-replicate {A = ℕ} most_cells 0) built)

pub returns : goal.returns
returns c =
    let pre = c.requires in
    let rising = c.rising-order.ensures in
    let built = rw rising at c.in_ok-drawn.ensures in
    plays c.args.n c.args.table.now _ pre.0 pre.1 pre.2 (length-replicate {A = ℕ} most_cells 0) built
    (rw rising at c.replay.ensures)
