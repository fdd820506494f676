-- `levels::level::Levels::turn` meets its contract: the level of each flag passed stands at its place.
-- Assumes nothing.
use Rattle.std.proofs.Common.{◌≡◌, ℕ, ◌<◌, length, get_or}
use Rattle.rule.specs.Order.{places, flags, level}
use Rattle.levels.proofs.level.Levels.turn.Given as goal

abbrev pub invariant-loop-v : goal.invariant-loop-v
invariant-loop-v l = (length l.turned ≡ places) × ((u : ℕ) → u < l.v → get_or l.turned u 0 ≡ level (flags l.n l.order.places) u)
