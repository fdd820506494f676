-- `report::lines::put_flags` meets its contract: the lines of the flags passed are written.
-- Assumes nothing.
use mathlib.Core.Path.{◌≡◌}
use mathlib.Core.List.{flat_map}
use Prim.Native.Nat.{◌+◌, ◌*◌, ◌≤◌}
use native.Mathlib.Omega.{arith}
use Rattle.rule.specs.Bits.{from}
use Rattle.rule.specs.Diagram.{asking}
use Rattle.runs.proofs.Puts.{puts_none}
use Rattle.report.proofs.Printed.{puts_flag}
use Rattle.report.proofs.lines.put_flags.Goals as goal

pub loop-v-init : goal.loop-v-init
unfolding flat_map from
loop-v-init c = (puts_none _ _, omega arith)

pub put_flag-next-requires : goal.put_flag-next-requires
put_flag-next-requires c =
    omega (arith, c.loop-v.invariant.1, c.requires.1)

pub loop-v-preserved : goal.loop-v-preserved
loop-v-preserved c =
    let le : c.put_flag-next.result ≤ c.args.at + (c.loop-v.v + 1) * 17 = omega (arith, c.put_flag-next.ensures.1, c.loop-v.invariant.1) in
    let line = rw c.asking.ensures at c.put_flag-next.ensures.0 in
    let more =
    puts_flag (asking c.args.cells.now c.args.used) c.loop-v.v (omega (arith, c.requires.1)) c.loop-v.invariant.0 line in
    (more, le)

pub returns : goal.returns
returns c =
    let all : c.loop-v.v ≡ c.args.n = omega arith in
    (rw all at c.loop-v.invariant.0, omega (arith, c.loop-v.invariant.1))
