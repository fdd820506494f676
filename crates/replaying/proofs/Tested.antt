-- A log's snapshots tested one after the other.
-- Assumes nothing.
use mathlib.Core.Path.{◌≡◌, refl, sym, ap, ◌∙◌}
use mathlib.Core.Logic.{◌≢◌}
use mathlib.Core.List.{List, ◌++◌, flat_map}
use mathlib.Core.Option.{some}
use Prim.Native.Nat.{ℕ, suc, ◌+◌, ◌*◌, ◌/◌, ◌≤◌, ◌<◌}
use native.Mathlib.Omega.{arith}
use native.Mathlib.Numerals.{add-one}
use lib.ListN.{length, get_or, drop, drop_of_length-le}
use lib.Seq.{drop-cons}
use Rattle.rule.specs.Log.{snapshots}
use Rattle.rule.specs.Files.{two_at}
use Rattle.rule.specs.Refusals.{Row, refusal, row_rows, log_rows}
use Rattle.theory.proofs.Refused.{refused-more, passed_more}
use Rattle.theory.proofs.Log.{snapshots-length, snapshot_at}

-- ---- the log's bytes

-- the row of snapshot i
pub row_at : (log : List ℕ) (i : ℕ) {row : ℕ} → i < length log / 2 → row ≡ two_at log (i * 2) → row ≡ get_or (snapshots log) i 0
row_at log i h e = e ∙ sym (snapshot_at log i (omega (arith, snapshots-length log)))

module _ (n : ℕ) (c : List ℕ) (pass : ℕ) (log : List ℕ) where
  abbrev rows_from : ℕ → List Row
  rows_from i = flat_map (row_rows n c (some pass)) (drop i (snapshots log))

  -- none of the tests of the snapshots before i applies: the number is that of the others
  abbrev pub Tested : ℕ → Type 0
  Tested i = refusal (rows_from i) ≡ refusal (log_rows n c (some pass) log)

  module _ (i : ℕ) (l : i < length log / 2) {row k : ℕ} (r : row ≡ get_or (snapshots log) i 0) (e : k ≡ refusal (row_rows n c (some pass) row)) (t : Tested i) where
    -- the tests from i on are those of snapshot i, and the others
    next : refusal (row_rows n c (some pass) row ++ rows_from (suc i)) ≡ refusal (log_rows n c (some pass) log)
    unfolding flat_map
    next =
        ap (λ (x : ℕ). refusal (row_rows n c (some pass) x ++ rows_from (suc i))) r
        ∙ ap (λ (rows : List ℕ). refusal (flat_map (row_rows n c (some pass)) rows)) (sym (drop-cons (snapshots log) i 0 (omega (arith, snapshots-length log))))
        ∙ t

    pub here_refused : k ≢ 0 → k ≡ refusal (log_rows n c (some pass) log)
    here_refused d = e ∙ refused-more (row_rows n c (some pass) row) (rows_from (suc i)) (λ z. d (e ∙ z)) ∙ next

    pub here_passed : k ≡ 0 → Tested (i + 1)
    here_passed z = rw (add-one i) (passed_more (row_rows n c (some pass) row) (rows_from (suc i)) refl (sym e ∙ z) ∙ next)

  pub all_tested : (i : ℕ) → length log / 2 ≤ i → Tested i → 0 ≡ refusal (log_rows n c (some pass) log)
  unfolding flat_map
  all_tested i l t = rw (drop_of_length-le (snapshots log) {i = i} (omega (arith, snapshots-length log))) at t
