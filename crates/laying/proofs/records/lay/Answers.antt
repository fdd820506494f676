-- `laying::records::lay` meets its contract: the first k records are laid, and the cells behind them are still 0.
-- Assumes nothing.
use Prim.Native.Nat.{◌<◌}
use native.Mathlib.Omega.{arith}
use Rattle.rule.specs.Bits.{from}
use Rattle.rule.specs.Cells.{room}
use Rattle.cells.proofs.Laid.{laid_none}
use Rattle.laying.proofs.Laid.{laid_next}
use Rattle.laying.proofs.records.lay.Goals as goal

pub loop-k-init : goal.loop-k-init
unfolding from
loop-k-init c = laid_none _ c.requires.2

pub loop-k-preserved : goal.loop-k-preserved
loop-k-preserved c =
    let a = c.args in
    let k = c.loop-k.k in
    let fits : k < room a.cells.now = omega arith in
    laid_next a.cells.now a.file.now a.start k c.put.ensures c.loop-k.invariant c.two_at-low.ensures c.two_at-high.ensures fits
