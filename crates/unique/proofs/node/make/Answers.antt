-- `unique::node::make` meets its contract: each way is a case of the definition.
-- Assumes nothing.
use Prim.Native.Nat.{◌<◌}
use native.Mathlib.Omega.{arith}
use Rattle.rule.specs.Cells.{room}
use Rattle.cells.proofs.Record.{put_length}
use Rattle.unique.specs.Node.{child, old, new, full}
use Rattle.record_index.proofs.Chain.{index_put}
use Rattle.unique.proofs.node.make.Goals as goal

pub returns-then-low-high : goal.returns-then-low-high
returns-then-low-high c = (child c.if-low-high.true, c.requires.2)

pub returns-in-Some : goal.returns-in-Some
returns-in-Some c = let found = c.in-Some.ensures in (old c.if-low-high.false _ found.0 found.1, c.requires.2)

pub returns-then-room-used : goal.returns-then-room-used
returns-then-room-used c =
    (full c.if-low-high.false c.in_default.ensures (omega arith), c.requires.2)

pub enter-requires : goal.enter-requires
enter-requires c =
    let space : c.args.used < room c.args.cells.now = omega arith in
    let lent = put_length c.args.cells.now c.args.used c.args.flag c.args.low c.args.high space in
    rw c.put.ensures (omega (arith, lent), omega (arith, lent), index_put _ _ _ space c.requires.2)

pub returns : goal.returns
returns c = (
  rw c.put.ensures (new c.if-low-high.false c.in_default.ensures (omega arith)),
  c.enter.ensures,
)
