-- The shape of lent cells, and sound cells (document 01, "Tables, orders, nodes"). Canonicity, counting and reach rest on the shape alone.
-- Assumes nothing.
use Rattle.std.specs.Prelude.{Bool, not, ◌&&◌, ◌||◌, List, ℕ, ◌+◌, ◌*◌, eqb, leb, ltb, drop}
use Rattle.rule.specs.Bits.{below}
use Rattle.rule.specs.Tests.{each}
use Rattle.rule.specs.Order.{flags, level}
use Rattle.rule.specs.Cells.{width, room, flag_at, low_at, high_at, record_of, is_end}

-- ---- the shape: n flags, the order's flags in a list, the cells, the used records

-- "each flag is below n"
unfoldable pub flags_below : ℕ → List ℕ → ℕ → Bool
flags_below n c used = each (λ k. ltb (flag_at c k) n) (below used)

-- "low and high differ"
unfoldable pub children_differ : List ℕ → ℕ → Bool
children_differ c used = each (λ k. not (eqb (low_at c k) (high_at c k))) (below used)

-- "and are smaller than the record's own node number"
unfoldable pub children_smaller : List ℕ → ℕ → Bool
children_smaller c used = each (λ k. ltb (low_at c k) (k + 2) && ltb (high_at c k) (k + 2)) (below used)

-- an end node, or a record that asks a flag standing later in the order than v
unfoldable pub asks_later : List ℕ → List ℕ → ℕ → ℕ → Bool
asks_later order c v m = is_end m || ltb (level order v) (level order (flag_at c (record_of m)))

-- "a child that is a record asks a flag standing later in the order"
unfoldable pub children_later : List ℕ → List ℕ → ℕ → Bool
children_later order c used =
    each (λ k. asks_later order c (flag_at c k) (low_at c k) && asks_later order c (flag_at c k) (high_at c k)) (below used)

-- records j and k are equal: the same flag, low and high
unfoldable pub same_record : List ℕ → ℕ → ℕ → Bool
same_record c j k = eqb (flag_at c j) (flag_at c k) && (eqb (low_at c j) (low_at c k) && eqb (high_at c j) (high_at c k))

-- "no two used records are equal"
unfoldable pub none_equal : List ℕ → ℕ → Bool
none_equal c used = each (λ k. each (λ j. not (same_record c j k)) (below k)) (below used)

-- "every cell past the used records is 0"
unfoldable pub rest_clear : List ℕ → ℕ → Bool
rest_clear c used = each (eqb 0) (drop (used * width) c)

-- the cells hold the used records and nothing else: no more than there is room for (refusal 6: "not sound, or more used than the cells hold"), and 0 past them
unfoldable pub laid : List ℕ → ℕ → Bool
laid c used = leb used (room c) && rest_clear c used

-- the shape: all of these
unfoldable pub shaped : ℕ → List ℕ → List ℕ → ℕ → Bool
shaped n order c used =
    laid c used
    && (flags_below n c used
    && (children_differ c used && (children_smaller c used && (children_later (flags n order) c used && none_equal c used))))

-- ---- sound cells

-- "Lent cells are sound when": they have the shape
unfoldable pub sound : ℕ → List ℕ → List ℕ → ℕ → Bool
sound n order c used = shaped n order c used
