-- `orders::order::fit_order` meets its contract: both tests, or the first that fails.
-- Assumes nothing.
use mathlib.Core.Path.{sym, ◌∙◌}
use Rattle.rule.specs.Order.{fit_order}
use Rattle.orders.proofs.order.fit_order.Goals as goal

pub returns-then-each_once : goal.returns-then-each_once
unfolding fit_order
returns-then-each_once c = c.rest_zero.ensures ∙ rw (sym c.each_once.ensures ∙ c.if-each_once.true)

pub returns-else-each_once : goal.returns-else-each_once
unfolding fit_order
returns-else-each_once c = c.if-each_once.false ∙ rw (sym c.each_once.ensures ∙ c.if-each_once.false)
