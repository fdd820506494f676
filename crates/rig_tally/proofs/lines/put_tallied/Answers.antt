-- `rig_tally::lines::put_tallied` meets its contract: the refusal's line, or the tally.
-- Assumes nothing.
use Rattle.rule.specs.Text.{text}
use Rattle.rig_tally.proofs.lines.put_tallied.Goals as goal

pub returns-in-Err : goal.returns-in-Err
unfolding text
returns-in-Err c =
    rw (c.in-Err.is, ← c.number.ensures) c.put_line.ensures.0
