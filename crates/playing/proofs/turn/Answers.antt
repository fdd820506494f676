-- `playing::turn` meets its contract: the call is the one that the words code, and its answer is noted.
-- Assumes nothing.
use native.Mathlib.Omega.{arith}
use borrow.Author.Rules.{rules}
use Rattle.playing.proofs.More.{turn_made}
use Rattle.playing.proofs.turn.Goals as goal

pub note-requires : goal.note-requires
note-requires c = omega (arith, c.requires.1)

pub returns : goal.returns
returns c =
    let asked = c.request_at-request.ensures in
    let given = c.given_at-given.ensures in
    let made = c.step-reached.ensures in
    turn_made asked given made (search rules) c.note.ensures
