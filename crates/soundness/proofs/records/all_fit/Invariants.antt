-- `soundness::records::all_fit` meets its contract: each record passed is sound and entered.
-- Assumes nothing.
use Rattle.rule.specs.Order.{flags}
use Rattle.record_index.specs.Index.{Indexed}
use Rattle.soundness.proofs.Parts.{Fitting}
use Rattle.soundness.proofs.records.all_fit.Given as goal

abbrev pub invariant-loop-k : goal.invariant-loop-k
invariant-loop-k l =
    Fitting l.levels.n (flags l.levels.n l.levels.order.places) l.cells l.used l.k × Indexed l.cells l.k l.index
