-- `tabulating::fill` meets its contract: the measure is the number of flags left in the order, and each step is one of Halves.antt.
-- Assumes nothing.
use mathlib.Core.Path.{sym, ◌∙◌}
use native.Mathlib.Omega.{arith}
use lib.Pow.{pow_mono}
use Rattle.tabulating.proofs.Halves.{length-filled, is_end_lem, leaf, flag_lt, half, both}
use Rattle.tabulating.proofs.+fill.Goals as goal

pub overflow_cast-bytes : goal.overflow_cast-bytes
overflow_cast-bytes t c = omega (arith, is_end_lem c.requires c.if-n-at.true)

pub bounds-bytes-row : goal.bounds-bytes-row
bounds-bytes-row t c = let g = c.requires in omega (arith, g.row_fits, g.rows)

pub returns-then-n-at : goal.returns-then-n-at
returns-then-n-at t c = leaf c.requires c.if-n-at.true

pub bounds-order-at : goal.bounds-order-at
bounds-order-at t c = omega (arith, c.requires.few, c.if-n-at.false)

pub overflow_cast-flag-2 : goal.overflow_cast-flag-2
overflow_cast-flag-2 t c = let g = c.requires in
    omega (arith, flag_lt g c.if-n-at.false, g.few)

pub set_bit-no-requires : goal.set_bit-no-requires
set_bit-no-requires t c = let g = c.requires in (
  omega (arith, g.row_fits, pow_mono g.few),
  omega (arith, flag_lt g c.if-n-at.false, g.few),
  omega arith,
)

pub branch-low-requires : goal.branch-low-requires
branch-low-requires t c = let g = c.requires in omega (arith, g.node, g.is_sound.fits)

pub fill-requires : goal.fill-requires
fill-requires t c = let h = c.if-n-at.false in
    (omega (arith, c.decreases, h), half c.requires h 0 _ _ (omega arith) c.set_bit-no.ensures c.branch-low.ensures c.requires.rows)

pub set_bit-yes-requires : goal.set_bit-yes-requires
set_bit-yes-requires t c = let g = c.requires in (
  omega (arith, g.row_fits, pow_mono g.few),
  omega (arith, flag_lt g c.if-n-at.false, g.few),
  omega arith,
)

pub branch-high-requires : goal.branch-high-requires
branch-high-requires t c = let g = c.requires in omega (arith, g.node, g.is_sound.fits)

pub fill-requires-2 : goal.fill-requires-2
fill-requires-2 t c = let h = c.if-n-at.false in (
  omega (arith, c.decreases, h),
  half c.requires h 1 _ _ (omega arith) c.set_bit-yes.ensures c.branch-high.ensures (length-filled _ _ _ _ _ _ c.fill.ensures),
)

pub shape_of-bytes : goal.shape_of-bytes
shape_of-bytes t c = length-filled _ _ _ _ _ _ c.fill-2.ensures ∙ sym c.requires.rows

pub returns : goal.returns
returns t c = both c.requires c.if-n-at.false c.set_bit-no.ensures c.set_bit-yes.ensures c.branch-low.ensures c.branch-high.ensures c.fill.ensures c.fill-2.ensures
