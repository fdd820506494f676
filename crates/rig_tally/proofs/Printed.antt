-- What is printed, from the refusal of the line and the reply to the log.
-- Assumes nothing.
use mathlib.Core.Path.{◌≡◌, sym, ap, ◌∙◌}
use mathlib.Core.List.{List}
use Prim.Native.Nat.{ℕ}
use Rattle.rule.specs.Refusals.{refusal}
use Rattle.rule.specs.Reply.{Reply}
use Rattle.rule.specs.Text.{read_line}
use Rattle.rule.specs.Listing.{flags_of, rows_of, line_rows, word_line}
use Rattle.rule.specs.RigTally.{printed_tally, rig_tally}
use Rattle.demands.proofs.RigLog.{rig_log}
use Rattle.rig_tally.specs.Plays.{Plays}

module _ (input : List ℕ) where
  pub refused_printed : {k : ℕ} → k ≡ refusal (line_rows (read_line input).0) → (k ≡ 0 → ⊥) → word_line "refused" k ≡ rig_tally input
  refused_printed e d = ap (word_line "refused") e ∙ sym (rig_log.unprinted input (λ z. d (e ∙ z)))

  pub played_printed : 0 ≡ refusal (line_rows (read_line input).0) → {n : ℕ} {t log : List ℕ} {r : Reply} → n ≡ flags_of (read_line input).0
      → t ≡ rows_of (read_line input).0 → log ≡ (read_line input).1 → Plays n t log r → printed_tally n r ≡ rig_tally input
  played_printed e {r = r} p q s x =
      let y : Plays (flags_of (read_line input).0) (rows_of (read_line input).0) (read_line input).1 r = rw (← p, ← q, ← s) x in
      ap (λ (m : ℕ). printed_tally m r) p
      ∙ sym (rig_log.printed input y.cells y.used y.root r (sym e) y.lent y.drawn y.replays)
