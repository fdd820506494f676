-- `costing::via` meets its contract: the two parts are the stretches of the set without v and of the set.
-- Assumes nothing.
use native.Mathlib.Omega.{arith}
use lib.Pow.{pow_mono}
use Rattle.sets.proofs.Size.{size_most}
use Rattle.costing.proofs.Ready.{ready_small, ready_small_flag, ready_rest, can_fold}
use Rattle.costing.proofs.Choices.{via_most, via_is}
use Rattle.costing.proofs.via.Goals as goal

pub set_bit-rest-requires : goal.set_bit-rest-requires
set_bit-rest-requires c = let p = c.requires in (ready_small p.0, ready_small_flag p.0 _ p.2, omega arith)

pub locate-source-requires : goal.locate-source-requires
locate-source-requires c = let p = c.requires in (p.0.started, ready_rest p.0 _ c.set_bit-rest.ensures)

pub bounds-least-rest : goal.bounds-least-rest
bounds-least-rest c =
    let p = c.requires in
    omega (arith, ready_rest p.0 c.args.v c.set_bit-rest.ensures, pow_mono {j = 10} p.0.started.few)

pub place_of-requires : goal.place_of-requires
place_of-requires c = let p = c.requires in ready_small_flag p.0 _ p.2

pub new-halves-requires : goal.new-halves-requires
new-halves-requires c =
    let p = c.requires in
    (can_fold p.0 _ p.2 c.set_bit-rest.ensures c.locate-source.ensures c.locate-own.ensures c.place_of.ensures).0

pub asking_cost-requires : goal.asking_cost-requires
asking_cost-requires c =
    let p = c.requires in
    let (_, half) = can_fold p.0 _ p.2 c.set_bit-rest.ensures c.locate-source.ensures c.locate-own.ensures c.place_of.ensures in
    (ready_small p.0, rw c.new-halves.ensures.0 half)

pub overflow_add-result : goal.overflow_add-result
overflow_add-result c =
    let g = c.requires.0 in
    let sum = via_is g c.requires.1 _ c.requires.2 c.set_bit-rest.ensures c.locate-source.ensures c.locate-own.ensures c.new-halves.ensures c.place_of.ensures c.asking_cost.ensures in
    omega (arith, sum, via_most g c.requires.1 c.args.v c.requires.2, size_most c.args.n c.args.set g.started.few g.below, g.started.few)

-- what is handed back, and its bound
pub returns : goal.returns
returns c =
    let p = c.requires in
    via_is p.0 p.1 _ p.2 c.set_bit-rest.ensures c.locate-source.ensures c.locate-own.ensures c.new-halves.ensures c.place_of.ensures c.asking_cost.ensures
