-- `solving::lowest` meets its contract: the place of the lowest bit that is 1.
-- Assumes nothing.
use Rattle.std.specs.Int.{w16}
use Rattle.std.proofs.lemmas.Nat.Bits.{bit_at-trailing_zeros}
use mathlib.Core.Path.{◌∙◌}
use native.Mathlib.Omega.{arith}
use Rattle.theory.proofs.Bits.{bit_shift}
use Rattle.solving.proofs.lowest.Goals as goal

pub returns : goal.returns
returns c =
    let set = c.args.set in
    let (_, is, none) = bit_at-trailing_zeros w16 set (omega (arith, c.requires)) (omega (arith, c.ranges.set.fits)) in
    record { member = bit_shift set _ ∙ is; first = λ u h e. omega (arith, bit_shift set u, none u h) }
