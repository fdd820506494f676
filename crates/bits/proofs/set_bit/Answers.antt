-- `bits::set_bit` meets its contract: where the bit has another value, its unit is added or taken away.
-- Assumes nothing.
use mathlib.Core.Path.{◌≡◌, refl, sym, ap, ◌∙◌}
use Prim.Native.Nat.{ℕ, ◌+◌, ◌*◌, ◌%◌, ◌^◌, ◌≤◌, ◌<◌}
use native.Mathlib.Nat.{one-mul}
use native.Mathlib.Omega.{arith}
use lib.Pow.{shl_exact, pow_mono}
use Rattle.rule.specs.Bits.{bit, set_bit}
use Rattle.theory.proofs.Bits.{bit_lt, set_bit_own, set_up, set_down}
use Rattle.bits.proofs.set_bit.Goals as goal

-- the shift is the flag's unit
unit : (f : ℕ) → f < 10 → (1 * 2 ^ f) % 2 ^ 16 ≡ 2 ^ f
unit f h = shl_exact 1 f 16 (omega arith) (omega arith) ∙ one-mul (2 ^ f)

-- k is the bit that was read, and x the unit
module _ (row f b k x : ℕ) (is : k ≡ bit row f) (u : x ≡ 2 ^ f) where
  own : k ≡ b → row ≡ set_bit row f b
  own e = sym (ap (set_bit row f) (sym e ∙ is) ∙ set_bit_own row f)

  down : b ≡ 0 → (k ≡ b → ⊥) → set_bit row f b + x ≡ row
  down e d = let h = bit_lt row f in rw (e, u) (set_down row f (omega (arith, d)))

  up : b < 2 → (b ≡ 0 → ⊥) → (k ≡ b → ⊥) → row + x ≡ set_bit row f b
  up l e d = let h = bit_lt row f in let q : b ≡ 1 = omega arith in rw (q, u) (sym (set_up row f (omega (arith, d))))

lowered : (c : goal.Then-value-eq0)
    → set_bit c.args.row c.args.flag c.args.value
    + (1 * 2 ^ c.args.flag) % 65536
    ≡ c.args.row
lowered c =
    down _ _ _ _ _ c.bit.ensures (unit c.args.flag c.requires.1) c.if-value-eq0.true c.if-bit-value.false

below : (c : goal.Else-value-eq0) → c.args.flag ≤ 10
below c = omega arith

raised : (c : goal.Else-value-eq0)
    → c.args.row + (1 * 2 ^ c.args.flag) % 65536
    ≡ set_bit c.args.row c.args.flag c.args.value
raised c =
    up _ _ _ _ _ c.bit.ensures (unit c.args.flag c.requires.1) c.requires.2 c.if-value-eq0.false c.if-bit-value.false

pub returns-then-bit-value : goal.returns-then-bit-value
returns-then-bit-value c = own _ _ _ _ _ c.bit.ensures refl c.if-bit-value.true

pub overflow_sub-result : goal.overflow_sub-result
overflow_sub-result c = omega (arith, lowered c)

pub overflow_add-result : goal.overflow_add-result
overflow_add-result c = omega (arith, unit c.args.flag c.requires.1, pow_mono {j = 10} (below c))

pub returns-then-value-eq0 : goal.returns-then-value-eq0
returns-then-value-eq0 c = omega (arith, lowered c)

pub returns-else-value-eq0 : goal.returns-else-value-eq0
returns-else-value-eq0 c = raised c
