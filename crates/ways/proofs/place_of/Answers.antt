-- `ways::place_of` meets its contract: the flags of the set below v are the ones of its lower digits.
-- Assumes nothing.
use mathlib.Core.Path.{ap}
use Prim.Native.Nat.{ℕ, ◌-◌, ◌<◌}
use native.Mathlib.Omega.{arith}
use Rattle.ways.specs.Ways.{place_of}
use Rattle.ways.proofs.Insert.{lower_le, lower_ones, ones_le, ones_small}
use Rattle.ways.proofs.place_of.Goals as goal

small : (c : goal.Start) → c.args.set < 65536
small c = omega arith

pub overflow_sub-lower : goal.overflow_sub-lower
overflow_sub-lower c = lower_le _ _ (small c)

pub overflow_cast-result : goal.overflow_cast-result
overflow_cast-result c = record { fits = ones_small _ (omega arith) }

pub overflow_sub-result : goal.overflow_sub-result
overflow_sub-result c = omega (arith, lower_ones c.args.set c.args.v (small c), ones_le c.args.v c.args.set)

pub returns : goal.returns
unfolding place_of
returns c = ap (λ (x : ℕ). c.args.v - x) (lower_ones c.args.set c.args.v (small c))
