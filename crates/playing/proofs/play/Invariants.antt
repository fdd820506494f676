-- `playing::play` meets its contract. The loop's invariant: the calls made so far are the first that the words code, they led from the first state to
-- the one at hand, and their answers are noted.
-- Assumes nothing.
use mathlib.Core.Path.{◌≡◌}
use Prim.Native.Nat.{◌≤◌}
use lib.ListN.{length}
use Rattle.store.specs.State.{state_of}
use Rattle.playing.specs.Played.{Plays, room_for}
use Rattle.playing.proofs.play.Given as goal

abbrev pub invariant-loop-k : goal.invariant-loop-k
invariant-loop-k l =
    (l.k ≤ l.room) × (l.room ≡ room_for l.words l.initial.answers) × Plays l.words l.k (state_of l.initial.store) l.initial.cells l.initial.bytes l.initial.answers (state_of l.store) l.cells l.bytes l.answers
    × (length l.cells ≡ length l.initial.cells) × (length l.bytes ≡ length l.initial.bytes) × (length l.answers ≡ length l.initial.answers)
