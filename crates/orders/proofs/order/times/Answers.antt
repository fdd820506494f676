-- `orders::order::times` meets its contract: the chain counts the places that name the flag.
-- Assumes nothing.
use mathlib.Core.Path.{◌≡◌, ◌∙◌}
use lib.Dec.{eqb}
use lib.ListN.{take}
use Rattle.std.proofs.Common.{rules}
use Rattle.std.proofs.iter.runs.Made.{chains}
use Rattle.std.specs.List.{count_by}
use Rattle.rule.specs.Order.{times}
use Rattle.theory.proofs.Tests.{count_by_is}
use Rattle.orders.proofs.order.times.Goals as goal

pub returns : goal.returns
unfolding times
returns c =
    let chain : c.count.result ≡ count_by (eqb c.args.v) (take c.args.n c.args.order.places) = search (rules, chains) in
    chain ∙ count_by_is (eqb c.args.v) _
