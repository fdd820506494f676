-- Demand 3 of a run of coded calls, by the words that code them and those that their answers stand in.
-- Assumes nothing.
use Rattle.std.specs.Prelude.{◌≡◌, List, ℕ, ◌<◌}
use Rattle.rule.specs.Refusals.{refusal, open_rows}
use Rattle.rule.specs.Calls.{State}
use Rattle.rule.specs.History.{Call, feed, BeginsOpen}
use Rattle.rule.specs.Demands.{AfterList}
use Rattle.asking.specs.declared.requests.Request.TheVariants as the-request
use Rattle.coding.specs.Coded.{request_at, given_at}
use Rattle.playing.specs.Played.{Plays}
use Rattle.playing.specs.Book.{fed_played, empty_book}

-- the first call that the words code is an open with a fit state: it meets none of the refusals of open with cells c
pub record BeginsFit (w c : List ℕ) : Type 0 where
  pub opens : request_at w 0 ≡ the-request.Open
  pub fit : refusal (open_rows (given_at w 0).n (given_at w 0).places c) ≡ 0

-- what is claimed of a run of the calls xs that led to state s and cells d: the words w code the calls, and their answers stand in a
pub record RunKept (w a : List ℕ) (made : ℕ) (xs : List Call) (s : State) (d : List ℕ) : Type 0 where
  -- the words tell what was asked and answered, call by call
  pub fed : fed_played w a made ≡ feed xs
  -- they begin with an accepted open
  pub begins : BeginsOpen (fed_played w a made)
  -- each rule in the plain book of these calls and the run's own answers (`book_played`) is kept in s and d, each table written over an older one equals it, each
  -- walk under a pass rule in the book and each provoke of two rules in it went by the book, and what else demand 3 claims
  pub after : AfterList s d empty_book (fed_played w a made)

-- so it is of whatever run, if it made a call and its first is such an open
abbrev pub PlayKept : Type 0
PlayKept =
    (w : List ℕ) (made : ℕ) (s s' : State) (c b a d b' a' : List ℕ) (p : Plays w made s c b a s' d b' a') → 0 < made → BeginsFit w c
    → RunKept w a' made p.calls s' d
