-- `rule::Order::rising` meets its contract: the places are those of the rising order of the i flags that are named so far.
-- Assumes nothing.
use mathlib.Core.Path.{◌≡◌}
use Rattle.rule.specs.Order.{rising}
use Rattle.rule.proofs.order.Order.rising.Given as goal

abbrev pub invariant-loop-i : goal.invariant-loop-i
invariant-loop-i l = l.places ≡ rising l.i
