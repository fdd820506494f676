-- How much of an input is needed: a table's rows and the line end, and one byte more than the longest log. Of so many the line is too long, or the log is.
-- Assumes nothing.
use mathlib.Core.Path.{◌≡◌, refl, sym, ap, ◌∙◌}
use mathlib.Core.Bool.{Bool, true, false, ◌||◌}
use mathlib.Core.List.{List, [], ◌∷◌, ◌++◌}
use mathlib.Core.Option.{none}
use Prim.Native.Nat.{ℕ, suc, ◌+◌, ◌≤◌, ◌<◌}
use native.Mathlib.Decide.{ℕ_discrete, dec_lt}
use native.Mathlib.Omega.{arith}
use borrow.Author.Tests.{lt-ltb}
use lib.ListN.{length, length-append, length-drop}
use Rattle.rule.specs.Bits.{below}
use Rattle.rule.specs.Log.{snapshots, played_by, tally_of}
use Rattle.rule.specs.Refusals.{Row, refusal, most_log, log_rows}
use Rattle.rule.specs.Reply.{reply}
use Rattle.rule.specs.Text.{read_line}
use Rattle.rule.specs.Listing.{most_rows, flags_of, rows_of, line_rows, word_line}
use Rattle.rule.specs.RigTally.{rig_rows, printed_tally, rig_tally}
use Rattle.theory.proofs.Lines.{line_ends, line_goes_on}
use Rattle.theory.proofs.Refused.{rows_alike, split_passed}
use Rattle.demands.proofs.RigLog.{printed_refused}
use Rattle.rig_tally.proofs.Behind.{line_behind}
use Rattle.rig_console.specs.Final.{Final}

-- ---- the line, when more follows

-- a line that has ended stays, and what follows is behind it
line_stays : (l rest : List ℕ) → length (read_line l).0 < length l → read_line (l ++ rest) ≡ ((read_line l).0, (read_line l).1 ++ rest)
line_stays [] rest h = absurd (omega arith)
line_stays (b ∷ bs) rest h =
    elim (ℕ_discrete b 10) [
      | yes e ↦ line_ends b (bs ++ rest) e ∙ rw (line_ends b bs e)
      | no d ↦
          let on = line_goes_on b bs d in
          line_goes_on b (bs ++ rest) d ∙ rw (on, line_stays bs rest (omega (arith, ap (λ (r : List ℕ × List ℕ). length r.0) on)))
    ]

-- and it gets no shorter
line_grows : (l rest : List ℕ) → length (read_line l).0 ≤ length (read_line (l ++ rest)).0
unfolding read_line
line_grows [] rest = omega arith
line_grows (b ∷ bs) rest =
    elim (ℕ_discrete b 10) [
      | yes e ↦ rw (line_ends b bs e) (omega arith)
      | no d ↦ rw (line_goes_on b bs d, line_goes_on b (bs ++ rest) d) (omega (arith, line_grows bs rest))
    ]

-- ---- what is refused whatever follows

long_line : (x : List ℕ) → most_rows < length (read_line x).0 → rig_tally x ≡ word_line "refused" 1
unfolding rig_tally
long_line x h = rw (lt-ltb most_rows (length (read_line x).0) h)

-- a log that is too long, whatever else is tested of it
abbrev too_long : List Row
too_long = (true, 16) ∷ []

or_true : (b : Bool) → (b || true) ≡ true
or_true true = refl
or_true false = refl

long_rows : (n : ℕ) (log : List ℕ) → most_log < length log → refusal (log_rows n [] none log) ≡ refusal too_long
long_rows n log h = rw (lt-ltb most_log (length log) h, or_true)

long_log : (x : List ℕ) → most_log < length (read_line x).1 → rig_tally x ≡ word_line "refused" (refusal (line_rows (read_line x).0 ++ too_long))
unfolding rig_tally
long_log x h =
    let line = (read_line x).0 in
    let log = (read_line x).1 in
    let e : refusal (rig_rows line log) ≡ refusal (line_rows line ++ too_long) =
    rows_alike (line_rows line) (log_rows (flags_of line) [] none log) too_long (long_rows (flags_of line) log h) in
    let values = tally_of (flags_of line) (played_by (below (flags_of line)) (rows_of line) (snapshots log)) in
    ap (λ (k : ℕ). printed_tally (flags_of line) (reply k values)) e
    ∙ printed_refused (refusal (line_rows line ++ too_long)) (flags_of line) values (λ z. omega (arith, (split_passed (line_rows line) too_long refl z).1))

pub enough_final : (l : List ℕ) → (most_rows + 1) + (most_log + 1) ≤ length l → Final l
enough_final l h rest =
    elim (dec_lt most_rows (length (read_line l).0)) [
      | yes g ↦ long_line (l ++ rest) (omega (arith, line_grows l rest)) ∙ sym (long_line l g)
      | no d ↦
          let stays = line_stays l rest (omega arith) in
          let behind = ap length (line_behind l) ∙ length-drop (suc (length (read_line l).0)) l in
          let long : most_log < length (read_line l).1 = omega (arith, behind) in
          let longer : most_log < length (read_line (l ++ rest)).1 = rw stays (omega (arith, long, length-append (read_line l).1 rest)) in
          long_log (l ++ rest) longer ∙ rw stays refl ∙ sym (long_log l long)
    ]
