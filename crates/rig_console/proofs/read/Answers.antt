-- `rig_console::read` meets its contract: where the input did not end, the buffer is full.
-- Assumes nothing.
use mathlib.Core.Bool.{true≢false}
use native.Mathlib.Omega.{arith}
use Rattle.rig_console.proofs.Enough.{enough_final}
use Rattle.rig_console.proofs.read.Goals as goal

pub returns-then-size-lt-ENOUGH : goal.returns-then-size-lt-ENOUGH
returns-then-size-lt-ENOUGH c = (c.read_full-size.ensures.0, λ e. absurd (true≢false e))

pub returns : goal.returns
returns c =
    let (le, counts) = c.read_full-size.ensures in
    (le, λ e. enough_final _ (omega (arith, counts, c.if-size-lt-ENOUGH.false)))
