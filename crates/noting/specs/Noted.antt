-- Answers in words, fourteen to a call: the refusal's number, 0 where the call is accepted, and the values that it hands back, of which no call has more than
-- the thirteen of a log's tally, 0 where there is none.
-- Assumes nothing.
use Rattle.std.specs.Prelude.{◌≡◌, List, [], ◌∷◌, ◌++◌, map, ℕ, ◌*◌, get_or, take, drop}
use Rattle.rule.specs.Log.{tally_numbers}
use Rattle.rule.specs.Results.{Query, tabulating, walking, provoking, replaying}
use Rattle.rule.specs.Reply.{Reply, reply, number_of, value_at}
use Rattle.rule.specs.History.{Asked, open_call, constant_call, making_call, query_call, Call}

-- the words of one answer
abbrev pub note_words : ℕ
note_words = 14

-- ---- from answers to words

-- the places of the values
abbrev pub value_places : List ℕ
value_places = 0 ∷ 1 ∷ 2 ∷ 3 ∷ 4 ∷ 5 ∷ 6 ∷ 7 ∷ 8 ∷ 9 ∷ 10 ∷ 11 ∷ 12 ∷ []

abbrev pub first_values : Reply → List ℕ
first_values r = map (value_at r) value_places

abbrev pub note_of : Reply → List ℕ
note_of r = number_of r ∷ first_values r

-- words tell a reply: its number and its first values
abbrev pub Tells : ℕ → List ℕ → Reply → Type 0
Tells number values r = (number ≡ number_of r) × (values ≡ first_values r)

-- the answers of a list of calls, one behind the other
abbrev pub notes : List Call → List ℕ
notes [] = []
notes (x ∷ xs) = note_of x.answer ++ notes xs

-- ---- from words to answers

-- the words that the answer of call k stands in
abbrev pub note_at : List ℕ → ℕ → List ℕ
note_at a k = take note_words (drop (k * note_words) a)

-- how many values a call hands back, which is known from what it is
abbrev pub query_values : Query → ℕ
query_values (tabulating m) = 0
query_values (walking m pass row) = 3
query_values (provoking m wanted p fixed ones) = 1
query_values (replaying m pass) = tally_numbers

abbrev pub asked_values : Asked → ℕ
asked_values (open_call given) = 0
asked_values (constant_call v) = 1
asked_values (making_call x) = 1
asked_values (query_call q) = query_values q

-- the reply to what was asked that a note's words tell
abbrev pub reply_by : Asked → List ℕ → Reply
reply_by q words = reply (get_or words 0 0) (take (asked_values q) (drop 1 words))
