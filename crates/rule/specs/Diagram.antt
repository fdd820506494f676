-- Reach and diagrams (document 01, "Tables, orders, nodes").
-- Assumes nothing.
use Rattle.std.specs.Prelude.{Bool, true, false, ◌&&◌, ◌||◌, List, ℕ, zero, suc, ◌+◌, eqb, leb, length}
use Rattle.rule.specs.Bits.{below}
use Rattle.rule.specs.Tests.{each, keep}
use Rattle.rule.specs.Cells.{flag_at, low_at, high_at, record_of, is_end}
use Rattle.rule.specs.Sound.{sound}

-- node m can be reached from `top` in at most `steps` steps
unfoldable pub reach_in : ℕ → List ℕ → ℕ → ℕ → Bool
reach_in zero c top m = eqb top m
reach_in (suc steps) c top m =
    eqb top m
    || elim (is_end top) [ true ↦ false | false ↦ reach_in steps c (low_at c (record_of top)) m || reach_in steps c (high_at c (record_of top)) m ]

-- "can be reached from the root"
abbrev pub reach : List ℕ → ℕ → ℕ → Bool
reach c root m = reach_in root c root m

-- "every record can be reached from the root"
unfoldable pub all_reached : List ℕ → ℕ → ℕ → Bool
all_reached c used root = each (λ k. reach c root (k + 2)) (below used)

-- "A diagram is sound cells in which every record can be reached from the root."
unfoldable pub diagram : ℕ → List ℕ → List ℕ → ℕ → ℕ → Bool
diagram n order c used root = sound n order c used && (leb root (used + 1) && all_reached c used root)

-- how many records ask flag v
unfoldable pub asking : List ℕ → ℕ → ℕ → ℕ
asking c used v = length (keep (λ k. eqb (flag_at c k) v) (below used))
