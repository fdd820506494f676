-- A query, and what it leaves, as the definitions of crate rule have them.
-- Assumes nothing.
use Rattle.std.specs.Prelude.{◌≡◌, List, ℕ, take, drop}
use Rattle.rule.specs.Results.{Query as PaperQuery, tabulating, walking, provoking, replaying}
use Rattle.rule.specs.Pass.{pass_of}
use Rattle.rule.specs.Calls.{State, Ask}
use Rattle.store.specs.State.{state_of}
use Rattle.asking.specs.declared.answers.Reached.{Reached}
use Rattle.asking.specs.declared.queries.Query.{Query}
use Rattle.asking.specs.declared.queries.Query.TheVariants as the-query
use Rattle.asking.specs.Answer.{reached_reply, Kind, done_kind, said_kind, sought_kind, tallied_kind, answer_kind}

-- a call that makes no rule, by its name in Results.antt
abbrev pub query_of : Query → PaperQuery
query_of (the-query.Tabulate m length) = tabulating m.number
query_of (the-query.Walk m pass row) = walking m.number (pass_of pass) row
query_of (the-query.Provoke m wanted p fixed ones) = provoking m.number wanted p.number fixed ones
query_of (the-query.Replay m pass length) = replaying m.number (pass_of pass)

-- how many of the bytes, from the first on, it is lent (all of them, where there are fewer): tabulate and replay as many as they
-- say
abbrev pub query_part : Query → ℕ
query_part (the-query.Tabulate m length) = length
query_part (the-query.Walk m pass row) = 0
query_part (the-query.Provoke m wanted p fixed ones) = 0
query_part (the-query.Replay m pass length) = length

-- the kind of answer that belongs to it
abbrev pub query_kind : Query → Kind
query_kind (the-query.Tabulate m length) = done_kind
query_kind (the-query.Walk m pass row) = said_kind
query_kind (the-query.Provoke m wanted p fixed ones) = sought_kind
query_kind (the-query.Replay m pass length) = tallied_kind

-- one query, from state s, cells c and bytes b: it met its contract, its answer is of the kind that belongs to it, and bytes behind those that it was lent
-- are as found
pub record Answers (q : Query) (s : State) (c b : List ℕ) (r : Reached) (b' : List ℕ) : Type 0 where
  pub met : Ask s c (query_of q) (take (query_part q) b) (reached_reply r) (state_of r.store) (take (query_part q) b')
  pub kind : answer_kind r.answer ≡ query_kind q
  pub behind : drop (query_part q) b' ≡ drop (query_part q) b
