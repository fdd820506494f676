-- `rig_tally::whole::log_start` meets its contract: the line is as long as the place of its end.
-- Assumes nothing.
use native.Mathlib.Omega.{arith}
use Rattle.rig_tally.proofs.Behind.{behind_end, none_behind}
use Rattle.rig_tally.proofs.whole.log_start.Goals as goal

pub returns-then-end-input : goal.returns-then-end-input
returns-then-end-input c =
    (c.requires.0, none_behind c.args.input.now c.args.end c.requires.0 c.requires.1 c.if-end-input.true)

pub returns : goal.returns
returns c =
    (omega (arith, c.requires.0, c.if-end-input.false), behind_end c.args.input.now c.args.end c.requires.0 c.requires.1)
