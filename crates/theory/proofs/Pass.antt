-- The pass rule "yes" is the same as none: it forbids no row.
-- Assumes nothing.
use mathlib.Core.Path.{◌≡◌, refl}
use mathlib.Core.Bool.{Bool, true, false}
use mathlib.Core.List.{List, [], ◌∷◌, flat_map}
use mathlib.Core.Option.{none, some}
use Prim.Native.Nat.{ℕ, ◌+◌, ◌^◌}
use native.Mathlib.Omega.{arith}
use borrow.Author.Tests.{le-ltb, leb-false}
use lib.Dec.{leb}
use Rattle.rule.specs.Log.{snapshots}
use Rattle.rule.specs.Refusals.{Row, refusal, flag_count, order_places, cells, records, node, pass_argument, log_length, row_rows, pass_rows, walk_rows, log_rows, replay_rows}
use Rattle.theory.proofs.Walks.{walk_end, table_row}
use Rattle.theory.proofs.Refused.{rows_alike, both_alike}

-- ---- one row

module _ (n row : ℕ) (c : List ℕ) where
  -- "yes" has 1 in a row that is there
  allowed : (b : Bool) → leb (2 ^ n) row ≡ b → refusal ((b, 9) ∷ pass_argument n c (some 1) row ∷ []) ≡ refusal ((b, 9) ∷ pass_argument n c none row ∷ [])
  allowed true e = refl
  allowed false e = rw (table_row n c 1 row (leb-false (2 ^ n) row e), walk_end c 1 row (omega arith))

  row_yes : refusal (row_rows n c (some 1) row) ≡ refusal (row_rows n c none row)
  row_yes = allowed (leb (2 ^ n) row) refl

-- ---- a call

-- rows that give the same number do so behind those of the cells and the nodes
rows_yes : (n used m : ℕ) (o c : List ℕ) (under without : List Row) → refusal under ≡ refusal without
    → refusal (pass_rows n o c used m (some 1) under) ≡ refusal (pass_rows n o c used m none without)
rows_yes n used m o c under without e =
    rows_alike (flag_count n ∷ order_places n o ∷ cells c ∷ records n o c used ∷ node used m ∷ []) (node used 1 ∷ under) without
    (rw (le-ltb (used + 1) 1 (omega arith)) e)

pub pass_yes : (n used m row : ℕ) (o c : List ℕ) → refusal (walk_rows n o c used m (some 1) row) ≡ refusal (walk_rows n o c used m none row)
pass_yes n used m row o c = rows_yes n used m o c (row_rows n c (some 1) row) (row_rows n c none row) (row_yes n row c)

-- the snapshots of a log, one behind the other
snapshots_yes : (n : ℕ) (c rows : List ℕ) → refusal (flat_map (row_rows n c (some 1)) rows) ≡ refusal (flat_map (row_rows n c none) rows)
unfolding flat_map
snapshots_yes n c [] = refl
snapshots_yes n c (row ∷ rows) =
    both_alike (row_rows n c (some 1) row) (row_rows n c none row) (flat_map (row_rows n c (some 1)) rows) (flat_map (row_rows n c none) rows) refl refl (row_yes n row c)
    (snapshots_yes n c rows)

pub replay_yes : (n used m : ℕ) (o c log : List ℕ) → refusal (replay_rows n o c used m (some 1) log) ≡ refusal (replay_rows n o c used m none log)
replay_yes n used m o c log =
    rows_yes n used m o c (log_rows n c (some 1) log) (log_rows n c none log)
    (rows_alike (log_length log ∷ []) (flat_map (row_rows n c (some 1)) (snapshots log)) (flat_map (row_rows n c none) (snapshots log)) (snapshots_yes n c (snapshots log)))
