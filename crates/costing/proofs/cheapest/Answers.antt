-- `costing::cheapest` meets its contract: of the set's flags passed, the one in hand is the smallest that costs least.
-- Assumes nothing.
use mathlib.Core.Path.{sym, ◌∙◌}
use native.Mathlib.Omega.{arith}
use Rattle.costing.proofs.Ready.{ready_small_flag}
use Rattle.costing.proofs.Choices.{cheapest_first, cheapest_pass, cheapest_keep, cheapest_take, cheapest_all}
use Rattle.costing.proofs.cheapest.Goals as goal
use Rattle.costing.proofs.cheapest.Goals.{then-bit-eq1+then-other-cost, then-bit-eq1+else-other-cost, else-bit-eq1}

pub via-cost-requires : goal.via-cost-requires
via-cost-requires c = let p = c.requires in (p.0, p.1, p.2.member)

pub overflow_step-u : goal.overflow_step-u
overflow_step-u c = let p = c.requires in omega (arith, ready_small_flag p.0 _ p.2.member)

pub loop-u-init : goal.loop-u-init
loop-u-init c = cheapest_first c.requires.2 c.via-cost.ensures

pub bit-requires : goal.bit-requires
bit-requires c = omega (arith, c.requires.0.started.few)

pub via-other-requires : goal.via-other-requires
via-other-requires c =
    let p = c.requires in
    (p.0, p.1, sym c.bit.ensures ∙ c.if-bit-eq1.true)

pub loop-u-preserved : goal.loop-u-preserved
loop-u-preserved c =
    let inv = c.loop-u.invariant in
    let is = c.bit.ensures in
    elim c.if-bit-eq1.branch [
      | then-bit-eq1+then-other-cost w ↦ rw (w.flag-is, w.cost-is) (cheapest_take inv (sym is ∙ w.if-bit-eq1.true) w.via-other.ensures w.if-other-cost.true)
      | then-bit-eq1+else-other-cost w ↦ rw (w.flag-is, w.cost-is) (cheapest_keep inv w.via-other.ensures w.if-other-cost.false)
      | else-bit-eq1 w ↦ rw (w.flag-is, w.cost-is) (cheapest_pass inv (λ e. w.if-bit-eq1.false (is ∙ e)))
    ]

pub returns : goal.returns
returns c = cheapest_all c.loop-u.invariant c.requires.0 (omega arith)
