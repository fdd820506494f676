-- `solving::fold` meets its contract: the stretch that is read is held aside, and the folded one stands in its own place.
-- Assumes nothing.
use native.Mathlib.Omega.{arith}
use Rattle.stretches.proofs.Stretches.{part_most}
use Rattle.costing.proofs.Ready.{ready_small, ready_small_flag, ready_rest}
use Rattle.solving.proofs.Held.{can_fold_held, folded_held}
use Rattle.solving.proofs.fold.Goals as goal

pub set_bit-requires : goal.set_bit-requires
set_bit-requires c = let p = c.requires in (ready_small p.0, ready_small_flag p.0 _ p.1, omega arith)

pub locate-source-requires : goal.locate-source-requires
locate-source-requires c = let p = c.requires in (p.0.started, ready_rest p.0 _ c.set_bit.ensures)

pub slice_bounds-held-end : goal.slice_bounds-held-end
slice_bounds-held-end c =
    let p = c.requires in
    omega (arith, part_most p.0.started.few c.locate-source.ensures)

pub place_of-requires : goal.place_of-requires
place_of-requires c =
    let p = c.requires in
    ready_small_flag p.0 _ p.1

pub new-halves-requires : goal.new-halves-requires
new-halves-requires c =
    let p = c.requires in
    (can_fold_held p.0 _ p.1 c.set_bit.ensures c.locate-source.ensures c.locate-own.ensures c.copy.ensures _ c.place_of.ensures).0

pub fold-requires : goal.fold-requires
fold-requires c =
    let p = c.requires in
    rw c.new-halves.ensures.0 (can_fold_held p.0 _ p.1 c.set_bit.ensures c.locate-source.ensures c.locate-own.ensures c.copy.ensures _ c.place_of.ensures).1

pub returns : goal.returns
returns c =
    let p = c.requires in
    folded_held p.0 _ p.1 c.set_bit.ensures c.locate-source.ensures c.locate-own.ensures c.copy.ensures _ c.place_of.ensures c.new-halves.ensures c.fold.ensures
