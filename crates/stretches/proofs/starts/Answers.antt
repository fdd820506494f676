-- `stretches::starts` meets its contract: the next stretch starts behind those of the sets passed.
-- Assumes nothing.
use Prim.Native.Nat.{ℕ, ◌^◌, ◌<◌}
use mathlib.Core.Path.{refl}
use native.Mathlib.Nat.{not-suc-le-zero}
use native.Mathlib.Omega.{arith}
use lib.ListN.{length-replicate}
use lib.Pow.{pow_mono}
use Rattle.rule.specs.Sets.{stretch_at}
use Rattle.stretches.proofs.Starting.{starting_more, starting_fits}
use Rattle.stretches.proofs.starts.Goals as goal

below : (c : goal.After-length-at) → c.loop-set.set < 2 ^ c.args.n
below c = omega (arith, c.row_count-end.ensures)

pub overflow_cast-end : goal.overflow_cast-end
overflow_cast-end c = omega (arith, c.row_count-end.ensures, pow_mono {j = 10} c.requires)

pub loop-set-init : goal.loop-set-init
unfolding stretch_at
loop-set-init c =
    record { few = c.requires; within = omega arith; lent = length-replicate {A = ℕ} 1024 0; at_is = refl; is = λ T h. absurd (not-suc-le-zero h) }

pub offset_bounds-starts-set : goal.offset_bounds-starts-set
offset_bounds-starts-set c = omega (arith, c.row_count-end.ensures, pow_mono {j = 10} c.loop-set.invariant.few)

pub bounds-starts-set : goal.bounds-starts-set
bounds-starts-set c = omega (arith, c.row_count-end.ensures, pow_mono {j = 10} c.loop-set.invariant.few)

pub length-at-requires : goal.length-at-requires
length-at-requires c = (c.loop-set.invariant.few, omega (arith, c.row_count-end.ensures))

pub overflow_add-at : goal.overflow_add-at
overflow_add-at c = omega (arith, starting_fits c.loop-set.invariant (below c) c.length-at.ensures)

pub loop-set-preserved : goal.loop-set-preserved
loop-set-preserved c = starting_more c.loop-set.invariant (below c) c.length-at.ensures

pub returns : goal.returns
returns c =
    record { few = c.loop-set.invariant.few; is = λ S h. c.loop-set.invariant.is S (omega (arith, c.row_count-end.ensures)) }
