-- `encoding::parts::put_records` meets its contract: the first k records are written.
-- Assumes nothing.
use mathlib.Core.Path.{◌≡◌}
use mathlib.Core.List.{flat_map}
use native.Mathlib.Omega.{arith}
use Rattle.rule.specs.Bits.{from}
use Rattle.runs.proofs.Puts.{puts_none}
use Rattle.encoding.proofs.Puts.{puts_record, length_records}
use Rattle.encoding.proofs.parts.put_records.Goals as goal

pub loop-k-init : goal.loop-k-init
unfolding from flat_map
loop-k-init c = puts_none _ _

pub put_record-next-requires : goal.put_record-next-requires
put_record-next-requires c =
    let pre = c.requires in
    let placed = c.loop-k.invariant.next_is in
    let long = length_records c.args.cells.now c.loop-k.k in
    (omega arith, pre.1 c.loop-k.k (omega arith), omega (arith, pre.2))

pub loop-k-preserved : goal.loop-k-preserved
loop-k-preserved c =
    let k = c.loop-k.k in
    puts_record c.args.cells.now k (omega (arith, c.requires.2)) c.loop-k.invariant c.put_record-next.ensures

pub returns : goal.returns
returns c =
    let a = c.args in
    let all : c.loop-k.k ≡ a.used = omega arith in
    rw all at c.loop-k.invariant
