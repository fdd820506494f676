-- The parts of sound cells, record by record: what crate rule says of all used records, said of record k.
-- Assumes nothing.
use Rattle.std.specs.Prelude.{Bool, not, ◌&&◌, List, ℕ, ◌+◌, ◌≤◌, ◌<◌, eqb, ltb}
use Rattle.rule.specs.Bits.{below}
use Rattle.rule.specs.Tests.{each}
use Rattle.rule.specs.Cells.{most_records, room, flag_at, low_at, high_at, record_of}
use Rattle.rule.specs.Sound.{asks_later, same_record}
use Rattle.levels.specs.declared.level.Levels.{Levels}
use Rattle.record_index.specs.Index.{Indexed}

-- record k equals none before it
unfoldable pub is_new : List ℕ → ℕ → Bool
is_new c k = each (λ j. not (same_record c j k)) (below k)

-- record k has a flag below n, two children that differ, are smaller and ask later flags, and is new; `order` is the order's flags
unfoldable pub fit_record : ℕ → List ℕ → List ℕ → ℕ → Bool
fit_record n order c k =
    ltb (flag_at c k) n
    && (not (eqb (low_at c k) (high_at c k))
    && ((ltb (low_at c k) (k + 2) && ltb (high_at c k) (k + 2))
    && ((asks_later order c (flag_at c k) (low_at c k) && asks_later order c (flag_at c k) (high_at c k)) && is_new c k)))

-- a flag below n, and a node that is an end node or a record that asks such a flag
pub record Child (levels : Levels) (c : List ℕ) (v m : ℕ) : Type 0 where
  pub flag : v < levels.n
  pub node : m ≤ room c + 1
  pub child_flag : 2 ≤ m → flag_at c (record_of m) < levels.n

-- record k is the next to be tested: those before it ask flags below n, and are entered in the index
pub record Next (levels : Levels) (c : List ℕ) (k : ℕ) (index : List ℕ) : Type 0 where
  pub fits : k < room c
  pub few : room c ≤ most_records
  pub flags : (j : ℕ) → j < k → flag_at c j < levels.n
  pub indexed : Indexed c k index
