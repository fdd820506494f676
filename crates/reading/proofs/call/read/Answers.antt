-- `reading::call::read` meets its contract: refused it leaves the cells, accepted it puts in sequence there what was laid aside.
-- Assumes nothing.
use Rattle.reading.proofs.Answered.{in_turn_lem, read_accepted}
use Rattle.reading.proofs.call.read.Goals as goal

pub sequence-requires : goal.sequence-requires
sequence-requires c =
    let own = c.in_ok-cursor.ensures.comes in
    in_turn_lem _ _ _ own.is own.stands.laid

pub returns : goal.returns
returns c =
    let own = c.in_ok-cursor.ensures.comes in
    read_accepted _ _ _ own.is own.stands.laid c.bit_map.ensures c.root_of-root.ensures c.sequence.ensures
