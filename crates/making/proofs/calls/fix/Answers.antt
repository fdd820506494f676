-- `making::calls::fix` meets its contract: refused by its tests, or what the search came to.
-- Assumes nothing.
use mathlib.Core.Path.{refl, ap}
use native.Mathlib.Omega.{arith}
use Rattle.std.specs.Prelude.{Err}
use Rattle.rule.specs.Results.{fix}
use Rattle.theory.proofs.Refused.{positive}
use Rattle.making.specs.State.{state}
use Rattle.making.proofs.Fits.{fix_fits}
use Rattle.making.proofs.Answered.{from-node, refused_by, ready, answered}
use Rattle.making.proofs.calls.fix.Goals as goal

pub returns-in-Err : goal.returns-in-Err
returns-in-Err c =
    let s = c.args in
    refused_by (state s.n s.order.places s.used) s.cells.now (fix s.rule.number s.i s.value) c.in-Err.ensures (record { used = s.used; answer = Err c.in-Err.refusal }) (positive c.in-Err.refusal) (refl, refl)

pub fix_node-grown-requires : goal.fix_node-grown-requires
fix_node-grown-requires c =
    let s = c.args in
    let u = c.turn-levels.ensures in
    let x = fix_fits s.n s.order.places s.cells.now s.used s.rule.number s.i s.value c.in_default.ensures refl in
    let r = ready (state s.n s.order.places s.used) s.cells.now (fix s.rule.number s.i s.value) c.in_default.ensures refl u.0 (ap (λ o. o.places) u.1) in
    (rw u.0 x.1, omega (arith, x.2), r, from-node x.0)

pub returns : goal.returns
returns c =
    let s = c.args in
    let u = c.turn-levels.ensures in
    answered (state s.n s.order.places s.used) s.cells.now (fix s.rule.number s.i s.value) c.in_default.ensures refl c.conclude.result u.0 (ap (λ o. o.places) u.1)
    c.fix_node-grown.ensures
    c.conclude.ensures
