-- `rig_tally::lines::put_asked` meets its contract: the numbers of the flags passed are written.
-- Assumes nothing.
use mathlib.Core.Path.{◌≡◌, refl}
use mathlib.Core.List.{flat_map}
use Prim.Native.Nat.{◌+◌, ◌*◌, ◌≤◌}
use native.Mathlib.Omega.{arith}
use borrow.Author.Rules.{rules}
use Rattle.runs.proofs.Puts.{puts_none}
use Rattle.rig_tally.proofs.Numbers.{puts_next}
use Rattle.rig_tally.proofs.lines.put_asked.Goals as goal

pub loop-v-init : goal.loop-v-init
unfolding flat_map
loop-v-init c = (omega arith, refl, puts_none _ _, omega arith, c.well_formed.1.1.1.0.1.0.1)

pub put_number_line-next-requires : goal.put_number_line-next-requires
put_number_line-next-requires c =
    omega (arith, c.loop-v.invariant.1, c.loop-v.invariant.3, c.requires.1)

pub loop-v-preserved : goal.loop-v-preserved
loop-v-preserved c =
    let le : c.put_number_line-next.result ≤ c.args.at + (c.loop-v.v + 1) * 6 = omega (arith, c.put_number_line-next.ensures.1, c.loop-v.invariant.3) in
    let more =
    puts_next _ c.loop-v.v (omega (arith, c.loop-v.invariant.4)) (omega (arith, c.requires.1)) c.loop-v.invariant.2 c.put_number_line-next.ensures.0 in
    (omega arith, search rules, more, le, c.loop-v.invariant.4)

pub returns : goal.returns
returns c =
    let all : c.loop-v.v ≡ c.args.n = omega arith in
    (rw all at c.loop-v.invariant.2, omega (arith, c.loop-v.invariant.3))
