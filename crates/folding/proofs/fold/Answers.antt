-- `folding::fold` meets its contract: the ways passed have their codes, and the first of them are entered in the index.
-- Assumes nothing.
use native.Mathlib.Omega.{arith}
use Rattle.ways.proofs.Insert.{way_few}
use Rattle.folding.proofs.Folding.{folding_none, folding_next, folded}
use Rattle.folding.proofs.fold.Goals as goal

pub loop-i-init : goal.loop-i-init
loop-i-init c = folding_none _

pub find_or_enter-requires : goal.find_or_enter-requires
find_or_enter-requires c =
    let at = c.loop-i.invariant in
    (omega (arith, c.requires, at.lent), at.entered)

pub overflow_cast-i : goal.overflow_cast-i
overflow_cast-i c =
    let at = c.loop-i in
    omega (arith, way_few c.args.halves.foldable at.i (omega (arith, c.requires, at.invariant.lent)))

pub loop-i-preserved : goal.loop-i-preserved
loop-i-preserved c =
    let at = c.loop-i.invariant in
    let e = c.find_or_enter.ensures in
    folding_next (omega (arith, at.lent)) at e.0 e.1

pub returns : goal.returns
returns c =
    let x = c.loop-i.invariant in
    folded _ (omega (arith, c.requires, x.lent)) (λ i h. x.firsts i (omega (arith, x.lent)))
