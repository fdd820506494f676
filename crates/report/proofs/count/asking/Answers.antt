-- `report::count::asking` meets its contract: the count is that of the records passed.
-- Assumes nothing.
use mathlib.Core.Path.{◌≡◌, sym, ap, ◌∙◌}
use Prim.Native.Nat.{ℕ, ◌+◌}
use native.Mathlib.Omega.{arith}
use Rattle.rule.specs.Diagram.{asking}
use Rattle.report.proofs.Counts.{asked_none, asked_more, asked_other}
use Rattle.report.proofs.count.asking.Goals as goal
use Rattle.report.proofs.count.asking.Goals.{then-flag_at-v, else-flag_at-v}

pub loop-k-init : goal.loop-k-init
loop-k-init c = (asked_none _ _, omega arith)

pub loop-k-preserved : goal.loop-k-preserved
loop-k-preserved c =
    let a = c.args in
    let flag = c.flag_at.ensures in
    let k = c.loop-k.k in
    elim c.if-flag_at-v.branch [
      | then-flag_at-v w ↦ (w.count-is ∙ ap (λ (x : ℕ). x + 1) c.loop-k.invariant.0 ∙ sym (asked_more a.cells.now a.v k (sym flag ∙ w.if-flag_at-v.true)), omega (arith, w.count-is, c.loop-k.invariant.1))
      | else-flag_at-v w ↦ (w.count-is ∙ c.loop-k.invariant.0 ∙ sym (asked_other a.cells.now a.v k (λ e. w.if-flag_at-v.false (flag ∙ e))), omega (arith, w.count-is, c.loop-k.invariant.1))
    ]

pub returns : goal.returns
returns c =
    let a = c.args in
    let e : c.loop-k.k ≡ a.used = omega arith in
    c.loop-k.invariant.0 ∙ ap (λ (k : ℕ). asking a.cells.now k a.v) e
