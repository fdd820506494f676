-- `laying::records::lay` meets its contract: the first k records are laid, and the cells behind them are still 0.
-- Assumes nothing.
use mathlib.Core.Path.{◌≡◌}
use mathlib.Core.List.{map}
use Rattle.rule.specs.Bits.{below}
use Rattle.rule.specs.Cells.{laid_in}
use Rattle.rule.specs.Files.{record_at}
use Rattle.laying.proofs.records.lay.Given as goal

abbrev pub invariant-loop-k : goal.invariant-loop-k
invariant-loop-k l = l.cells ≡ laid_in l.initial.cells (map (record_at l.file l.start) (below l.k))
