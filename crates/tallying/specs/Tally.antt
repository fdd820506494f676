-- The tally of a log as one record, and the next one.
-- Assumes nothing.
use Rattle.std.specs.Prelude.{cond, List, [], ◌∷◌, map, ℕ, ◌+◌, ◌/◌, ◌%◌, ◌≤◌, eqb, length, get_or, replicate, Result, Ok, Err}
use Rattle.rule.specs.Bits.{below}
use Rattle.rule.specs.Log.{Played, tally_numbers, yes_answers, changes, times_asked}
use Rattle.rule.specs.Reply.{Reply, accepted, refused}
use Rattle.rule.specs.Answers.{refusal_number}
use Rattle.rule.specs.declared.refusal.Refusal.{Refusal}
use Rattle.tallying.specs.declared.Tally.{Tally}

-- ---- as the paper counts it

-- "snapshots played, yes answers, changes of answer, and for each .. flag, flag 0 first, how often it was asked"
abbrev pub tally_values : Tally → List ℕ
tally_values t = t.played ∷ t.yes ∷ t.changes ∷ t.asked

-- a log that was played, or refused: its number, and zeros in the tally's place
abbrev pub tallied_reply : Result Tally Refusal → Reply
tallied_reply (Ok t) = accepted (tally_values t)
tallied_reply (Err k) = refused (refusal_number k) (replicate tally_numbers 0)

-- the tally of no snapshot: zeros
abbrev pub no_tally : Tally
no_tally = record { played = 0; yes = 0; changes = 0; asked = replicate 10 0 }

-- the tally of snapshots as they were played, each number counted apart (Log.antt of crate rule)
abbrev pub tally_for : List Played → Tally
tally_for ps = record { played = length ps; yes = yes_answers ps; changes = changes ps; asked = map (times_asked ps) (below 10) }

-- ---- one snapshot more

-- one more at each place whose bit the set has, the lowest bit being that of the first place
unfoldable pub counted : List ℕ → ℕ → List ℕ
counted [] flags = []
counted (a ∷ l) flags = (a + flags % 2) ∷ counted l (flags / 2)

-- 1 where there is a snapshot before and its answer differs
unfoldable pub changed : ℕ → ℕ → ℕ → ℕ
changed played last answer = cond (eqb played 0) 0 (cond (eqb answer last) 0 1)

-- the tally with one snapshot more: its answer, and the flags that were asked
abbrev pub next_tally : Tally → ℕ → ℕ → ℕ → Tally
next_tally t last answer flags = record {
  played = t.played + 1;
  yes = t.yes + answer;
  changes = t.changes + changed t.played last answer;
  asked = counted t.asked flags;
}

-- no count is above the number of snapshots
pub record Counts (t : Tally) : Type 0 where
  pub yes_le : t.yes ≤ t.played
  pub changes_le : t.changes ≤ t.played
  pub asked_le : (k : ℕ) → get_or t.asked k 0 ≤ t.played
