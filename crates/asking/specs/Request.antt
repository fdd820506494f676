-- A request as the definitions of crate rule have it.
-- Assumes nothing.
use Rattle.std.specs.Prelude.{ℕ}
use Rattle.rule.specs.Results.{Making as PaperMaking, flag, join, choose, fix}
use Rattle.rule.specs.Calls.{State}
use Rattle.rule.specs.History.{Asked, open_call, constant_call, making_call, query_call}
use Rattle.asking.specs.declared.requests.Making.{Making}
use Rattle.asking.specs.declared.requests.Making.TheVariants as the-making
use Rattle.asking.specs.declared.requests.Request.{Request}
use Rattle.asking.specs.declared.requests.Request.TheVariants as the-request
use Rattle.asking.specs.Answer.{Kind, done_kind, made_kind}
use Rattle.asking.specs.Query.{query_of, query_part, query_kind}

-- a call that makes a rule with records, by its name in Results.antt
abbrev pub making_of : Making → PaperMaking
making_of (the-making.Flag i) = flag i
making_of (the-making.Join code f g) = join code f.number g.number
making_of (the-making.Choose f g h) = choose f.number g.number h.number
making_of (the-making.Fix m i b) = fix m.number i b

-- the call that a request asks for, where open is given this state
abbrev pub asked_by : Request → State → Asked
asked_by the-request.Open given = open_call given
asked_by (the-request.Constant v) given = constant_call v
asked_by (the-request.Make x) given = making_call (making_of x)
asked_by (the-request.Ask q) given = query_call (query_of q)

-- how many of the bytes, from the first on, it is lent: none but for a query
abbrev pub part : Request → ℕ
part the-request.Open = 0
part (the-request.Constant v) = 0
part (the-request.Make x) = 0
part (the-request.Ask q) = query_part q

-- the kind of answer that belongs to it
abbrev pub request_kind : Request → Kind
request_kind the-request.Open = done_kind
request_kind (the-request.Constant v) = made_kind
request_kind (the-request.Make x) = made_kind
request_kind (the-request.Ask q) = query_kind q
