-- `sets::set_at` meets its contract: the one computed test, over the constant table.
-- Assumes nothing.
use mathlib.Core.Path.{refl}
use lib.Count.{ones_in}
use Rattle.rule.specs.Tests.{each}
use Rattle.sets.specs.Sequence.{key}
use Rattle.sets.proofs.set_at.Goals as goal

pub entry-requires : goal.entry-requires
unfolding each key ones_in
entry-requires c = (refl, c.requires)
