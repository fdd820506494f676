-- `searching::order::follow` meets its contract: with each place one flag less is left to be asked.
-- Assumes nothing.
use native.Mathlib.Omega.{arith}
use lib.Pow.{pow_mono}
use Rattle.theory.proofs.Sets.{full_lt}
use Rattle.searching.proofs.Following.{following_none, flag_small, set_small, following_more, following_all}
use Rattle.searching.proofs.order.follow.Goals as goal

pub overflow_sub-set : goal.overflow_sub-set
overflow_sub-set c = omega (arith, c.row_count.ensures, full_lt c.args.n)

pub overflow_cast-set : goal.overflow_cast-set
overflow_cast-set c = omega (arith, c.row_count.ensures, full_lt c.args.n, pow_mono {j = 10} c.requires.few)

pub loop-i-init : goal.loop-i-init
loop-i-init c = rw c.row_count.ensures (following_none _ _ c.requires.few)

pub bounds-first-set : goal.bounds-first-set
bounds-first-set c = set_small c.requires c.loop-i.invariant

pub overflow_cast-places : goal.overflow_cast-places
overflow_cast-places c =
    omega (arith, flag_small c.requires c.loop-i.invariant (omega arith))

pub bounds-places-i : goal.bounds-places-i
bounds-places-i c = omega (arith, c.requires.few)

pub set_bit-set-requires : goal.set_bit-set-requires
set_bit-set-requires c =
    let m = c.requires in
    (set_small m c.loop-i.invariant, flag_small m c.loop-i.invariant (omega arith), omega arith)

pub loop-i-preserved : goal.loop-i-preserved
loop-i-preserved c = following_more c.requires c.loop-i.invariant (omega arith) c.set_bit-set.ensures

pub returns : goal.returns
returns c = following_all c.requires c.loop-i.invariant (omega arith)
