-- The node that is asked whether a row may happen.
-- Assumes nothing.
use Rattle.std.proofs.Math.Option.{Option, none, some}
use Rattle.std.specs.Prelude.{ℕ}

-- the pass rule's; where there is none, "yes", which forbids no row
abbrev pub pass_node : Option ℕ → ℕ
pass_node none = 1
pass_node (some p) = p
