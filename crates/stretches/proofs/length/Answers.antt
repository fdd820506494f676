-- `stretches::length` meets its contract: a set of flags below n has at most n, and the shift loses no bit.
-- Assumes nothing.
use Prim.Native.Nat.{◌-◌, ◌^◌}
use mathlib.Core.Path.{ap, ◌∙◌}
use native.Mathlib.Nat.{one-mul}
use native.Mathlib.Omega.{arith}
use lib.Pow.{shl_exact, pow_mono}
use Rattle.sets.proofs.Size.{size_most}
use Rattle.stretches.proofs.length.Goals as goal

pub size_of-requires : goal.size_of-requires
size_of-requires c = omega (arith, c.requires, pow_mono {j = 10} c.requires.0)

pub overflow_sub-result : goal.overflow_sub-result
overflow_sub-result c = omega (arith, size_most c.args.n c.args.set c.requires.0 c.requires.1, c.size_of.ensures.is)

pub returns : goal.returns
returns c = shl_exact 1 (c.args.n - c.size_of.result) 64 (omega arith) (omega arith) ∙ one-mul _ ∙ ap (λ k. 2 ^ (c.args.n - k)) c.size_of.ensures.is
