-- An order turned round.
-- Assumes nothing.
use Rattle.std.specs.Prelude.{◌≡◌, List, ℕ, ◌<◌, get_or}
use Rattle.rule.specs.Order.{flags, level}

-- the level of each flag stands at the flag's place
abbrev pub Turned : ℕ → List ℕ → List ℕ → Type 0
Turned n order turned = (v : ℕ) → v < n → get_or turned v 0 ≡ level (flags n order) v
