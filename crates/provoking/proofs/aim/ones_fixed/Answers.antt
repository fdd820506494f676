-- `provoking::aim::ones_fixed` meets its contract: of each flag passed the bit of the one set is at most that of the other.
-- Assumes nothing.
use Prim.Native.Nat.{◌<◌}
use mathlib.Core.Path.{sym}
use native.Mathlib.Omega.{arith}
use borrow.Author.Count.{below_more}
use Rattle.rule.specs.Bits.{bit}
use Rattle.theory.proofs.Bits.{bit_lt}
use Rattle.theory.proofs.Fixed.{fixed_each, one_outside}
use Rattle.provoking.proofs.aim.ones_fixed.Goals as goal

pub returns-then-bit : goal.returns-then-bit
returns-then-bit c =
    let a = c.args in
    let i = c.loop-i.i in
    let h : bit a.fixed i < bit a.ones i = omega (arith, c.bit.ensures, c.bit-in-loop-i.ensures, c.if-bit.true) in
    sym (one_outside a.fixed a.ones i (omega arith) (omega (arith, h, bit_lt a.ones i)) (omega (arith, h, bit_lt a.ones i)))

pub loop-i-preserved : goal.loop-i-preserved
loop-i-preserved c = below_more _ _ c.loop-i.invariant (omega (arith, c.bit.ensures, c.bit-in-loop-i.ensures, c.if-bit.false))

pub returns : goal.returns
returns c = sym (fixed_each _ _ (λ i h one. omega (arith, one, c.loop-i.invariant i (omega arith), bit_lt c.args.fixed i)))
