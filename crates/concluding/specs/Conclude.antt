-- What a search for a rule's node comes to in a store.
-- Assumes nothing.
use Rattle.std.specs.Prelude.{◌≡◌, List, [], ◌∷◌, ℕ, Option, Some, None}
use Rattle.rule.specs.Reply.{accepted, refused}
use Rattle.rule.specs.Answers.{made_reply}
use Rattle.cells.specs.Record.{clear_from}
use Rattle.concluding.specs.declared.ending.Outcome.{Outcome}

-- the node and the records that were added, or 10 and the cells from record `used` on cleared
abbrev pub Concludes : Option ℕ → List ℕ → ℕ → ℕ → Outcome → List ℕ → Type 0
Concludes (Some m) d used more r e = (r.used ≡ more) × (made_reply r.answer ≡ accepted (m ∷ [])) × (e ≡ d)
Concludes None d used more r e = (r.used ≡ used) × (made_reply r.answer ≡ refused 10 (0 ∷ [])) × (e ≡ clear_from d used)
