-- What `operate` answers.
-- Assumes nothing.
use Rattle.std.specs.Prelude.{[], ◌∷◌, ℕ, Result, Ok, Err}
use Rattle.rule.specs.declared.refusal.Refusal.{Refusal}
use Rattle.rule.specs.Answers.{refusal_number}
use Rattle.rule.specs.Results.{digit}
use Rattle.rule.specs.Refusals.{refusal, operator_argument}
use Rattle.rule.specs.Reply.{Reply, accepted, refused, reply}

-- the paper's number and value for every case of the answer
abbrev pub digit_reply : Result ℕ Refusal → Reply
digit_reply (Ok m) = accepted (m ∷ [])
digit_reply (Err k) = refused (refusal_number k) (0 ∷ [])

-- the operator's digit at two end nodes; "operator above 15" is 9
abbrev pub answer : ℕ → ℕ → ℕ → Reply
answer code a b = reply (refusal (operator_argument code ∷ [])) (digit code a b ∷ [])
