-- `ways::insert_bit` meets its contract: the bits from p on move up by a sum.
-- Assumes nothing.
use native.Mathlib.Omega.{arith}
use lib.Pow.{shr_le}
use Rattle.ways.proofs.Insert.{insert_is, inserted_lt, inserted_fits}
use Rattle.ways.proofs.insert_bit.Goals as goal

pub overflow_add-result : goal.overflow_add-result
overflow_add-result c = omega (arith, shr_le c.args.i c.args.p)

pub overflow_add-result-2 : goal.overflow_add-result-2
overflow_add-result-2 c =
    let s = c.requires in
    omega (arith, inserted_lt _ _ _ s.0 s.1 s.2, inserted_fits _ _ _ s.0 s.1 s.2)

pub returns : goal.returns
returns c = let s = c.requires in rw (inserted_fits _ _ _ s.0 s.1 s.2) (insert_is _ _ _)
