-- `standing::in_sequence` meets its contract: it holds each used record against the next.
-- Assumes nothing.
use Rattle.std.proofs.Common.{◌+◌, ◌-◌, ◌<◌, ◌∙◌, ℕ, arith, rules}
use Rattle.std.proofs.lemmas.Iterator.{YieldsList-from_range, serves_from_Range}
use Rattle.std.proofs.lemmas.Iterator.Search.{all_from_yields_List}
use Rattle.rule.specs.Order.{flags}
use Rattle.rule.specs.Sequence.{precedes, in_sequence}
use Rattle.rule.specs.Cells.{room, flag_at}
use Rattle.theory.proofs.Tests.{list_all_below}
use Rattle.standing.proofs.in_sequence.Goals as goal

pub all-requires-clause-callable : goal.all-requires-clause-callable
all-requires-clause-callable c =
    let (_, s, small) = c.requires in
    let n-is = c.turn-levels.ensures.0 in
    serves_from_Range (λ x q h. search rules)
    (λ k _ h.
    let last : k + 1 < c.args.used = omega (arith, c.saturating_sub.ensures) in
    let flag : flag_at c.args.cells.now k < c.turn-levels.result.n = rw n-is (s.flag k (omega arith)) in
    let next : flag_at c.args.cells.now (k + 1) < c.turn-levels.result.n = rw n-is (s.flag (k + 1) last) in
    let fits : k + 1 < room c.args.cells.now = omega (arith, s.fits) in
    search rules)

pub returns : goal.returns
unfolding in_sequence
returns c =
    let levels = c.turn-levels.result in
    let e = c.turn-levels.ensures in
    let test = λ (k : ℕ). precedes (flags levels.n levels.order.places) c.args.cells.now k (k + 1) in
    let r =
    all_from_yields_List test _ _ c.all.result c.all.ensures.ran
    (YieldsList-from_range 0 (c.args.used - 1) (c.args.used - 1) (rw c.saturating_sub.ensures) (omega arith))
    (λ k b q h. search rules)
    ∙ list_all_below test (c.args.used - 1) in
    rw (e.0, e.1) at r
