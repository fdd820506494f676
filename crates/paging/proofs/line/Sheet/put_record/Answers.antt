-- `paging::line::Sheet::put_record` meets its contract: its four numbers and the line end, one behind the other.
-- Assumes nothing.
use Prim.Native.Nat.{◌+◌}
use native.Mathlib.Omega.{arith}
use Rattle.rule.specs.Cells.{record_in}
use Rattle.paging.proofs.Lines.{node_fits, flag_fits, low_fits, high_fits}
use Rattle.paging.proofs.Put.{puts_record}
use Rattle.paging.proofs.line.Sheet.put_record.Goals as goal

pub put_right-flag-requires : goal.put_right-flag-requires
put_right-flag-requires c =
    (node_fits c.args.self.now.printable c.args.k c.requires.0, omega (arith, c.requires.1))

pub put_column-low-requires : goal.put_column-low-requires
put_column-low-requires c =
    (rw c.flag_at.ensures (flag_fits c.args.self.now.printable c.args.k c.requires.0), omega (arith, c.requires.1, c.put_right-flag.ensures.1))

pub put_column-high-requires : goal.put_column-high-requires
put_column-high-requires c = (
  rw c.low_at.ensures (low_fits c.args.self.now.printable c.args.k c.requires.0),
  omega (arith, c.requires.1, c.put_right-flag.ensures.1, c.put_column-low.ensures.1),
)

pub put_column-end-requires : goal.put_column-end-requires
put_column-end-requires c = (
  rw c.high_at.ensures (high_fits c.args.self.now.printable c.args.k c.requires.0),
  omega (arith, c.requires.1, c.put_right-flag.ensures.1, c.put_column-low.ensures.1, c.put_column-high.ensures.1),
)

pub put_byte-requires : goal.put_byte-requires
put_byte-requires c =
    omega (arith, c.requires.1, c.put_right-flag.ensures.1, c.put_column-low.ensures.1, c.put_column-high.ensures.1, c.put_column-end.ensures.1)

pub returns : goal.returns
returns c =
    let end = c.put_byte.ensures in
    let (p, p-at) = c.put_right-flag.ensures in
    let (q, q-at) = rw c.flag_at.ensures at c.put_column-low.ensures in
    let (s, s-at) = rw c.low_at.ensures at c.put_column-high.ensures in
    let (t, t-at) = rw c.high_at.ensures at c.put_column-end.ensures in
    let a = c.args in
    (puts_record (a.k + 2) (record_in a.self.now.cells.now a.k) (omega (arith, c.requires.1, end.next_is)) p q s t end, omega (arith, end.next_is))
