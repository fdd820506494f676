-- `paging::line::Sheet::put_lines` meets its contract: the lines of the records passed are written.
-- Assumes nothing.
use mathlib.Core.Path.{◌≡◌}
use mathlib.Core.List.{flat_map}
use Prim.Native.Nat.{◌+◌, ◌*◌, ◌-◌}
use native.Mathlib.Omega.{arith}
use Rattle.rule.specs.Bits.{from}
use Rattle.rule.specs.Sheet.{line_length, record_lines, line_of}
use Rattle.runs.proofs.Puts.{puts_none}
use Rattle.paging.proofs.Put.{puts_line}
use Rattle.paging.proofs.line.Sheet.put_lines.Goals as goal

pub loop-k-init : goal.loop-k-init
unfolding flat_map from
loop-k-init c =
    let none : c.args.first - c.args.first ≡ 0 = omega arith in
    (rw none (puts_none _ _), omega arith)

pub put_line_of-next-requires : goal.put_line_of-next-requires
put_line_of-next-requires c = omega (arith, c.loop-k.invariant.1, c.requires.1)

pub loop-k-preserved : goal.loop-k-preserved
loop-k-preserved c =
    let a = c.args in
    let i = c.loop-k.k - a.first in
    let here : a.first + i ≡ c.loop-k.k = omega arith in
    let then : c.loop-k.k + 1 - a.first ≡ i + 1 = omega arith in
    let line = rw (← here) at c.put_line_of-next.ensures.0 in
    let next : c.put_line_of-next.result ≡ a.at + (i + 1) * (line_length + 1) = omega (arith, c.put_line_of-next.ensures.1, c.loop-k.invariant.1) in
    rw then (puts_line (line_of a.self.now.cells.now a.self.now.used) a.first i (omega (arith, next, c.requires.1)) c.loop-k.invariant.0 line, next)

pub returns : goal.returns
returns c =
    let all : c.loop-k.k - c.args.first ≡ record_lines = omega arith in
    (rw all at c.loop-k.invariant.0, omega (arith, c.loop-k.invariant.1))
