-- `asking::queries::replayed` meets its contract: the log is all of the bytes, or their first part.
-- Assumes nothing.
use borrow.Author.Rules.{rules}
use Rattle.asking.proofs.Part.{all_played, first_played}
use Rattle.asking.proofs.queries.replayed.Goals as goal

pub returns-then-bytes-size : goal.returns-then-bytes-size
returns-then-bytes-size c =
    let a = c.args in
    all_played a.length a.bytes.now (search rules) c.replay.ensures

pub returns : goal.returns
returns c =
    let a = c.args in
    first_played a.length a.bytes.now c.replay-2.ensures
