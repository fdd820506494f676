-- `making::calls::choose` meets its contract: refused by its tests, or what the search came to.
-- Assumes nothing.
use mathlib.Core.Path.{refl, ap}
use Rattle.std.specs.Prelude.{Err}
use Rattle.rule.specs.Results.{choose}
use Rattle.theory.proofs.Refused.{positive}
use Rattle.making.specs.State.{state}
use Rattle.making.proofs.Fits.{choose_fits}
use Rattle.making.proofs.Answered.{from-node, refused_by, ready, answered}
use Rattle.making.proofs.calls.choose.Goals as goal

pub returns-in-Err : goal.returns-in-Err
returns-in-Err c =
    let s = c.args in
    refused_by (state s.n s.order.places s.used) s.cells.now (choose s.first.number s.second.number s.third.number) c.in-Err.ensures (record { used = s.used; answer = Err c.in-Err.refusal }) (positive c.in-Err.refusal) (refl, refl)

pub choose_nodes-grown-requires : goal.choose_nodes-grown-requires
choose_nodes-grown-requires c =
    let s = c.args in
    let u = c.turn-levels.ensures in
    let x = choose_fits s.n s.order.places s.cells.now s.used s.first.number s.second.number s.third.number c.in_default.ensures refl in
    let r = ready (state s.n s.order.places s.used) s.cells.now (choose s.first.number s.second.number s.third.number) c.in_default.ensures refl u.0 (ap (λ o. o.places) u.1) in
    (r, from-node x.0, from-node x.1, from-node x.2)

pub returns : goal.returns
returns c =
    let s = c.args in
    let u = c.turn-levels.ensures in
    answered (state s.n s.order.places s.used) s.cells.now (choose s.first.number s.second.number s.third.number) c.in_default.ensures refl c.conclude.result u.0 (ap (λ o. o.places) u.1)
    c.choose_nodes-grown.ensures
    c.conclude.ensures
