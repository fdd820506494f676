-- `orders::order::each_once` meets its contract: the chain tests each flag.
-- Assumes nothing.
use Rattle.std.proofs.Common.{rules, tests, ◌∙◌, refl, eqb}
use Rattle.std.proofs.lemmas.Iterator.{YieldsList-from_range}
use Rattle.std.proofs.lemmas.Iterator.Search.{all_from_yields_List}
use Rattle.rule.specs.Order.{flags, times, each_once}
use Rattle.theory.proofs.Tests.{list_all_below}
use Rattle.orders.proofs.order.each_once.Goals as goal

pub returns : goal.returns
unfolding each_once
returns c =
    all_from_yields_List (λ v. eqb (times v (flags c.args.n c.args.order.places)) 1) _ _ c.all.result c.all.ensures.ran
    (YieldsList-from_range 0 c.args.n c.args.n refl (search rules))
    (λ x b q k. search (rules, tests)) ∙ list_all_below _ c.args.n
