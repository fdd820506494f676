-- `making::calls::flag` meets its contract: refused by its tests, or what the search came to.
-- Assumes nothing.
use mathlib.Core.Path.{refl, ap}
use Rattle.std.specs.Prelude.{Err}
use Rattle.rule.specs.Results.{flag}
use Rattle.theory.proofs.Refused.{positive}
use Rattle.making.specs.State.{state}
use Rattle.making.proofs.Fits.{flag_fits}
use Rattle.making.proofs.Answered.{refused_by, ready, answered}
use Rattle.making.proofs.calls.flag.Goals as goal

pub returns-in-Err : goal.returns-in-Err
returns-in-Err c =
    let s = c.args in
    refused_by (state s.n s.order.places s.used) s.cells.now (flag s.i) c.in-Err.ensures (record { used = s.used; answer = Err c.in-Err.refusal }) (positive c.in-Err.refusal) (refl, refl)

pub flag_node-grown-requires : goal.flag_node-grown-requires
flag_node-grown-requires c =
    let s = c.args in
    let u = c.turn-levels.ensures in
    let x = flag_fits s.n s.order.places s.cells.now s.used s.i c.in_default.ensures refl in
    let r = ready (state s.n s.order.places s.used) s.cells.now (flag s.i) c.in_default.ensures refl u.0 (ap (λ o. o.places) u.1) in
    (rw u.0 x, r)

pub returns : goal.returns
returns c =
    let s = c.args in
    let u = c.turn-levels.ensures in
    answered (state s.n s.order.places s.used) s.cells.now (flag s.i) c.in_default.ensures refl c.conclude.result u.0 (ap (λ o. o.places) u.1)
    c.flag_node-grown.ensures
    c.conclude.ensures
