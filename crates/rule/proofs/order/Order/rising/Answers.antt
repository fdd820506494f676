-- `rule::Order::rising` meets its contract: the places are those of the rising order of the i flags that are named so far.
-- Assumes nothing.
use mathlib.Core.Path.{◌≡◌, refl, ◌∙◌, ap}
use mathlib.Core.List.{List}
use Prim.Native.Nat.{ℕ, min}
use native.Mathlib.Omega.{arith}
use lib.ListN.{set}
use Rattle.rule.specs.Bits.{from}
use Rattle.rule.specs.Order.{rising}
use Rattle.std.proofs.Math.Nat.{min-le_right}
use Rattle.rule.proofs.Rising.{rising-more, rising_within}
use Rattle.rule.proofs.order.Order.rising.Goals as goal

pub loop-i-init : goal.loop-i-init
unfolding from
loop-i-init c = refl

pub loop-i-preserved : goal.loop-i-preserved
loop-i-preserved c =
    let at = c.loop-i in
    ap (λ (l : List ℕ). set l at.i at.i) at.invariant ∙ rising-more at.i (omega (arith, min-le_right c.args.n 10))

pub returns : goal.returns
returns c =
    let all : c.loop-i.i ≡ min c.args.n 10 = omega arith in
    c.loop-i.invariant ∙ ap rising all ∙ rising_within c.args.n
