-- `playing::play` meets its contract. The loop's invariant: the calls made so far are the first that the words code, they led from the first state to
-- the one at hand, and their answers are noted.
-- Assumes nothing.
use mathlib.Core.Path.{◌≡◌, refl}
use native.Mathlib.Omega.{arith}
use borrow.Author.Rules.{rules}
use Rattle.playing.proofs.More.{plays_none, plays_more}
use Rattle.playing.proofs.play.Goals as goal

pub loop-k-init : goal.loop-k-init
loop-k-init c = (omega arith, omega arith, plays_none _ _ _ _ _, refl, refl, refl)

pub turn-store-requires : goal.turn-store-requires
turn-store-requires c = (omega arith, omega arith)

pub loop-k-smaller : goal.loop-k-smaller
loop-k-smaller c = omega arith

pub loop-k-preserved : goal.loop-k-preserved
loop-k-preserved c =
    let s = c.loop-k in
    let taken = c.loop-k-test.true in
    let made = plays_more s.invariant.2 c.turn-store.ensures (omega arith) in
    (omega arith, s.invariant.1, made, search rules, search rules, search rules)

pub returns : goal.returns
returns c =
    let all : c.loop-k.k ≡ c.room_for-room.result = omega arith in
    record { made_value = c.room_for-room.ensures; plays = rw all at c.loop-k.invariant.2 }
