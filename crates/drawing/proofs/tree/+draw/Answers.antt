-- `drawing::tree::draw` meets its contract: the measure is the number of flags that are left, and each step is one of Branches.antt.
-- Assumes nothing.
use native.Mathlib.Omega.{arith}
use lib.Pow.{pow_mono}
use Rattle.theory.proofs.Cofactor.{row_lt}
use Rattle.drawing.proofs.Branches.{leaf, flag_lt, split, branch_rule, first, second}
use Rattle.unique.proofs.Branches.{no_room_low, both_branches}
use Rattle.drawing.proofs.tree.+draw.Goals as goal

pub end_node-requires : goal.end_node-requires
end_node-requires t c = omega (arith, row_lt _ c.requires.0.bits c.args.row)

pub returns-then-n-at : goal.returns-then-n-at
returns-then-n-at t c = let p = c.requires in
    (rw c.end_node.ensures (leaf p.0 c.if-n-at.true), p.1)

pub set_bit-no-requires : goal.set_bit-no-requires
set_bit-no-requires t c = let g = c.requires.0 in (
  omega (arith, g.row_fits, pow_mono g.few),
  omega (arith, flag_lt g c.if-n-at.false, g.few),
  omega arith,
)

pub draw-first-requires : goal.draw-first-requires
draw-first-requires t c = let h = c.if-n-at.false in
    (omega (arith, c.decreases, h), (first c.requires.0 h _ c.set_bit-no.ensures, c.requires.1))

pub set_bit-yes-requires : goal.set_bit-yes-requires
set_bit-yes-requires t c = let g = c.requires.0 in (
  omega (arith, g.row_fits, pow_mono g.few),
  omega (arith, flag_lt g c.if-n-at.false, g.few),
  omega arith,
)

pub draw-second-requires : goal.draw-second-requires
draw-second-requires t c = let h = c.if-n-at.false in
    (omega (arith, c.decreases), (second c.requires.0 h _ _ c.set_bit-yes.ensures c.draw-first.ensures.0, c.draw-first.ensures.1))

pub returns-in-None : goal.returns-in-None
returns-in-None t c = let g = c.requires.0 in
    let h = c.if-n-at.false in
    (no_room_low (split g h) (branch_rule g h 0 _ (omega arith) c.set_bit-no.ensures) c.in-None.is c.draw-first.ensures.0, c.draw-first.ensures.1)

pub returns-in-Some : goal.returns-in-Some
returns-in-Some t c = let g = c.requires.0 in
    let h = c.if-n-at.false in (
      both_branches (split g h) (branch_rule g h 0 _ (omega arith) c.set_bit-no.ensures) (branch_rule g h 1 _ (omega arith) c.set_bit-yes.ensures)
          c.draw-first.ensures.0 c.draw-second.ensures.0 (omega arith) (omega arith) c.in-Some.is c.make_above.ensures.0,
      c.make_above.ensures.1,
    )
