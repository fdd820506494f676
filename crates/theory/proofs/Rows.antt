-- Friedman's lemma for rows: how many rows' walks ask a flag is the same for all orders that ask the same set of flags before it.
-- Assumes nothing.
use mathlib.Core.Path.{◌≡◌, ap}
use mathlib.Core.List.{List}
use Prim.Native.Nat.{ℕ, ◌^◌, ◌≤◌}
use lib.ListN.{length}
use Rattle.rule.specs.Bits.{below}
use Rattle.rule.specs.Table.{depends, restrict}
use Rattle.rule.specs.Level.{rows_asking}
use Rattle.theory.proofs.Tests.{keep_same, below-keep}
use Rattle.theory.proofs.Friedman.{BySet}
use Rattle.theory.proofs.Restrict.{restrict-set}

-- "The number of rows whose walk asks a flag also depends only on that flag and the set asked before it"
pub friedman_rows : (n : ℕ) (t : List ℕ) → length t ≡ 2 ^ n → (v : ℕ) → BySet n (λ l. rows_asking l v t)
unfolding rows_asking
friedman_rows n t fit v before before' o o' w w' small =
    ap length
    (keep_same (λ (r : ℕ). depends v (restrict before r t)) (λ (r : ℕ). depends v (restrict before' r t)) (below (length t))
    (λ r m. ap (depends v) (restrict-set n r before before' o o' w w' small t fit)))

-- at most all rows ask it
pub rows_most : (before : List ℕ) (v : ℕ) (t : List ℕ) → rows_asking before v t ≤ length t
unfolding rows_asking
rows_most before v t = below-keep _ (length t)
