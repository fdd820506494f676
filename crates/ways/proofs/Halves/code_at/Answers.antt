-- `ways::Halves::code_at` meets its contract: the way with a bit inserted is one of the source.
-- Assumes nothing.
use mathlib.Core.Path.{ap}
use Prim.Native.Nat.{ℕ}
use native.Mathlib.Omega.{arith}
use lib.ListN.{get_or}
use Rattle.ways.proofs.Insert.{way_few, place_few, way_in}
use Rattle.ways.proofs.Halves.code_at.Goals as goal

pub insert_bit-requires : goal.insert_bit-requires
insert_bit-requires c =
    let f = c.args.self.foldable in
    (omega (arith, way_few f _ c.requires.0), place_few f, omega (arith, c.requires.1))

pub bounds-self-insert_bit : goal.bounds-self-insert_bit
bounds-self-insert_bit c =
    let f = c.args.self.foldable in
    rw c.insert_bit.ensures (way_in f _ _ c.requires.0 (omega (arith, c.requires.1)))

pub returns : goal.returns
returns c = ap (λ (x : ℕ). get_or c.args.self.source.now x 0) c.insert_bit.ensures
