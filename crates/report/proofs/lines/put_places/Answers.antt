-- `report::lines::put_places` meets its contract: the places passed are written.
-- Assumes nothing.
use mathlib.Core.Path.{◌≡◌}
use mathlib.Core.List.{flat_map}
use Prim.Native.Nat.{◌+◌, ◌*◌, ◌≤◌}
use native.Mathlib.Omega.{arith}
use lib.ListN.{length-take, take}
use lib.Seq.{take_all}
use Rattle.runs.proofs.Puts.{puts_none}
use Rattle.report.proofs.Printed.{puts_place}
use Rattle.report.proofs.lines.put_places.Goals as goal

pub loop-flag-init : goal.loop-flag-init
unfolding flat_map
loop-flag-init c = (puts_none _ _, omega arith)

pub put_number-next-requires : goal.put_number-next-requires
put_number-next-requires c =
    let a = c.args in
    omega (arith, length-take a.n a.order.places, c.loop-flag.invariant.1, c.requires.1)

pub loop-flag-preserved : goal.loop-flag-preserved
loop-flag-preserved c =
    let a = c.args in
    let flags = take a.n a.order.places in
    let i = c.loop-flag.flag-index in
    let le : c.put_number-next.result ≤ a.at + (i + 1) * 6 = omega (arith, c.put_number-next.ensures.1, c.loop-flag.invariant.1) in
    (puts_place flags i (omega arith) (omega (arith, length-take a.n a.order.places, c.requires.1)) c.loop-flag.invariant.0 c.put_number-next.ensures.0, le)

pub returns : goal.returns
returns c =
    let a = c.args in
    let flags = take a.n a.order.places in
    let all : take c.loop-flag.flag-index flags ≡ flags = take_all c.loop-flag.flag-index flags (omega arith) in
    (rw all at c.loop-flag.invariant.0, omega (arith, length-take a.n a.order.places, c.loop-flag.invariant.1))
