-- `orders::order::rest_zero` meets its contract: the chain tests each place from n on.
-- Assumes nothing.
use Rattle.std.proofs.Common.{rules, tests, ◌≡◌, ◌∙◌, ◌-◌, ap, sym, ℕ, length, eqb, take, drop}
use Rattle.std.proofs.lemmas.List.{take_rest}
use Rattle.std.proofs.lemmas.Iterator.{YieldsList-from_slice}
use Rattle.std.proofs.lemmas.Iterator.Search.{all_from_yields_List}
use Rattle.rule.specs.Tests.{each}
use Rattle.rule.specs.Order.{rest_zero}
use Rattle.theory.proofs.Tests.{list_all_is}
use Rattle.orders.proofs.order.rest_zero.Goals as goal

pub returns : goal.returns
unfolding rest_zero
returns c =
    let places = c.args.order.places in
    let ten : length places ≡ 10 = search rules in
    let tail = take (10 - c.args.n) (drop c.args.n places) in
    let tested = all_from_yields_List (eqb 0) _ _ c.all.result c.all.ensures.ran (YieldsList-from_slice tail cc) (λ x b q k. search (rules, tests)) in
    tested ∙ list_all_is (eqb 0) tail ∙ ap (λ (k : ℕ). each (eqb 0) (take (k - c.args.n) (drop c.args.n places))) (sym ten) ∙ ap (each (eqb 0)) (take_rest places c.args.n)
