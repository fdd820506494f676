-- The stretches of all sets of n flags are 3^n cells: computed for each n up to ten.
-- Assumes nothing.
use mathlib.Core.Path.{◌≡◌, refl}
use mathlib.Core.Bool.{true}
use Prim.Native.Nat.{ℕ, ◌^◌, ◌<◌}
use borrow.Author.Tests.{eqb-true}
use lib.Count.{ones_in}
use lib.Dec.{eqb}
use Rattle.rule.specs.Bits.{below, from}
use Rattle.rule.specs.Tests.{each}
use Rattle.rule.specs.Sets.{stretch_at}
use Rattle.theory.proofs.Tests.{each_below}

test : each (λ n. eqb (stretch_at n (2 ^ n)) (3 ^ n)) (below 11) ≡ true
unfolding each from stretch_at ones_in
test = refl

pub stretches_fill : (n : ℕ) → n < 11 → stretch_at n (2 ^ n) ≡ 3 ^ n
stretches_fill n h = eqb-true (stretch_at n (2 ^ n)) (3 ^ n) (each_below _ 11 test n h)
