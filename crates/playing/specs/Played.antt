-- Coded calls, made one after the other.
-- Assumes nothing.
use Rattle.std.specs.Prelude.{◌≡◌, List, [], ◌∷◌, ◌++◌, ℕ, ◌+◌, ◌*◌, ◌/◌, min, length, take, drop}
use Rattle.std.proofs.lemmas.List.Edits.{sets}
use Rattle.rule.specs.Calls.{State}
use Rattle.rule.specs.History.{Call, Meets, Calls}
use Rattle.coding.specs.Coded.{call_words, asked_at, part_at}
use Rattle.noting.specs.Noted.{note_words, note_of, notes}

-- ---- one call

-- x is call k of those that the words code: it asks what they say, and of bytes b it is lent the first so many, as many as come back
pub record Coded (w : List ℕ) (k : ℕ) (b : List ℕ) (x : Call) : Type 0 where
  pub asks : x.asked ≡ asked_at w k
  pub lent : x.lent ≡ take (part_at w k) b
  pub as_many : length x.bytes ≡ length x.lent

-- the bytes after it: those that it was lent as it left them, and behind them the others as they were
abbrev pub bytes_after : List ℕ → Call → List ℕ
bytes_after b x = x.bytes ++ drop (length x.lent) b

-- call k was made, from state s, cells c, bytes b and answer words a to s', d, b' and a'
pub record Turns (w : List ℕ) (k : ℕ) (s : State) (c b a : List ℕ) (s' : State) (d b' a' : List ℕ) : Type 0 where
  pub call : Call
  pub coded : Coded w k b call
  pub met : Meets s c call
  pub state_is : s' ≡ call.state
  pub cells_are : d ≡ call.cells
  pub bytes_are : b' ≡ bytes_after b call
  -- its answer is noted in its words
  pub noted : a' ≡ sets a (k * note_words) (note_of call.answer)

-- ---- a list of them

-- the calls are those that the words code one after the other from call k on; each finds the bytes as the last one left them, from b to b'
abbrev pub CodedFrom : List ℕ → ℕ → List ℕ → List Call → List ℕ → Type 0
CodedFrom w k b [] b' = b' ≡ b
CodedFrom w k b (x ∷ xs) b' = Coded w k b x × CodedFrom w (k + 1) (bytes_after b x) xs b'

-- so many coded calls, made one after the other, led from state s, cells c, bytes b and answer words a to s', d, b' and a'
pub record Plays (w : List ℕ) (made : ℕ) (s : State) (c b a : List ℕ) (s' : State) (d b' a' : List ℕ) : Type 0 where
  pub calls : List Call
  pub count : length calls ≡ made
  pub coded : CodedFrom w 0 b calls b'
  pub made_so : Calls s c calls s' d
  -- their answers stand in the answer words; those behind are as found
  pub noted : a' ≡ notes calls ++ drop (made * note_words) a

-- how many calls are made: as many as the words code and the answer words have room for
abbrev pub room_for : List ℕ → List ℕ → ℕ
room_for w a = min (length w / call_words) (length a / note_words)
