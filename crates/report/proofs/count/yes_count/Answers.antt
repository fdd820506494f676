-- `report::count::yes_count` meets its contract: the rows that say yes are counted.
-- Assumes nothing.
use mathlib.Core.Path.{◌≡◌, sym, ◌∙◌}
use Prim.Native.Nat.{ℕ}
use lib.Dec.{eqb}
use Rattle.std.proofs.Common.{rules}
use Rattle.std.proofs.iter.runs.Made.{chains}
use Rattle.std.specs.List.{count_by}
use Rattle.report.proofs.Counts.{yes_counted}
use Rattle.report.proofs.count.yes_count.Goals as goal

pub returns : goal.returns
returns c =
    let counted : c.count.result ≡ count_by (λ (x : ℕ). eqb x 1) c.args.table.now = search (rules, chains) in
    counted ∙ sym (yes_counted c.args.table.now)
