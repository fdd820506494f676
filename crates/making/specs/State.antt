-- A store's state by its parts.
-- Assumes nothing.
use Rattle.std.specs.Prelude.{List, ℕ}
use Rattle.rule.specs.Calls.{State}

abbrev pub state : ℕ → List ℕ → ℕ → State
state n places used = record { n = n; places = places; used = used }
