-- What is printed of a table, by the diagram that it was packed into.
-- Assumes nothing.
use Rattle.std.specs.Prelude.{List, ◌++◌, ℕ}
use Rattle.rule.specs.Bits.{below}
use Rattle.rule.specs.Order.{flags}
use Rattle.rule.specs.Diagram.{asking}
use Rattle.rule.specs.Listing.{word_line, flag_lines, order_line, yes_count}

-- the bytes of a listing of eight flags at most, where a number has five digits: 12 each of `flags` and `nodes`, 6 and 6 a flag of `order`, 17 of each `flag`
-- line, 10 of `yes`
abbrev pub most_printed : ℕ
most_printed = 224

-- a table t of n flags, whose diagram of so many records stands in cells c under an order
unfoldable pub reported : ℕ → List ℕ → List ℕ → List ℕ → ℕ → List ℕ
reported n t order c used =
    word_line "flags" n
    ++ (word_line "nodes" used
    ++ (order_line (flags n order)
    ++ (flag_lines (asking c used) (below n)
    ++ word_line "yes" (yes_count t))))
