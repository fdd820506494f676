-- `record_index::index::find` meets its contract: the chain of the hash passes every record that can be the one looked for.
-- Assumes nothing.
use Prim.Native.Nat.{◌-◌}
use mathlib.Core.Path.{◌∙◌}
use native.Mathlib.Omega.{arith}
use Rattle.record_index.specs.Index.{hash_at}
use Rattle.record_index.proofs.Chain.{last, searched_first, searched_next}
use Rattle.record_index.proofs.index.find.Goals as goal
use Rattle.record_index.proofs.index.find.Goals.{else-flag_at-flag-via-then-flag_at-flag+then-low_at-low+else-high_at-high, else-flag_at-flag-via-then-flag_at-flag+else-low_at-low, else-flag_at-flag-via-else-flag_at-flag}

pub loop-at-init : goal.loop-at-init
loop-at-init c =
    searched_first c.requires.2 c.hash.ensures.0

pub loop-at-smaller : goal.loop-at-smaller
loop-at-smaller c =
    let k = c.loop-at.at - 1 in
    omega (
      arith,
      c.requires.2.link k (omega (arith, c.loop-at.invariant.within)),
      (last c.args.cells.now (hash_at c.args.cells.now k) k).within,
    )

pub loop-at-preserved : goal.loop-at-preserved
loop-at-preserved c =
    let k = c.loop-at.at - 1 in
    searched_next _ k _ c.loop-at.invariant (omega arith)
    (λ is.
    elim c.else-flag_at-flag.branch [
      | else-flag_at-flag-via-then-flag_at-flag+then-low_at-low+else-high_at-high w ↦ w.if-high_at-high.false (w.high_at.ensures ∙ is.high_is)
      | else-flag_at-flag-via-then-flag_at-flag+else-low_at-low w ↦ w.if-low_at-low.false (w.low_at.ensures ∙ is.low_is)
      | else-flag_at-flag-via-else-flag_at-flag w ↦ w.if-flag_at-flag.false (c.flag_at.ensures ∙ is.flag_is)
    ])
    (c.requires.2.link k (omega (arith, c.loop-at.invariant.within)))
