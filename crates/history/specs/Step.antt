-- What a request leaves, as the definitions of crate rule have it.
-- Assumes nothing.
use Rattle.std.specs.Prelude.{◌≡◌, List, ℕ, take, drop}
use Rattle.rule.specs.Calls.{State}
use Rattle.rule.specs.History.{Call, Meets}
use Rattle.store.specs.State.{state_of}
use Rattle.asking.specs.declared.answers.Reached.{Reached}
use Rattle.asking.specs.declared.requests.Request.{Request}
use Rattle.asking.specs.Answer.{reached_reply, answer_kind}
use Rattle.asking.specs.Request.{asked_by, part, request_kind}

-- the call as it was made: it reached r, and left cells d and, of bytes that were b, b'
abbrev pub call_of : Request → State → List ℕ → Reached → List ℕ → List ℕ → Call
call_of q given b r d b' =
    record {
      asked = asked_by q given;
      lent = take (part q) b;
      answer = reached_reply r;
      state = state_of r.store;
      cells = d;
      bytes = take (part q) b';
    }

-- one call by its request, from state s (open: the given one), cells c and bytes b
pub record Steps (q : Request) (s given : State) (c b : List ℕ) (r : Reached) (d b' : List ℕ) : Type 0 where
  -- it met its contract
  pub met : Meets s c (call_of q given b r d b')
  -- its answer is of the kind that belongs to it
  pub kind : answer_kind r.answer ≡ request_kind q
  -- bytes behind those that it was lent are as found
  pub behind : drop (part q) b' ≡ drop (part q) b
