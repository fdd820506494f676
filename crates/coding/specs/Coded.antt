-- A list of calls as words code it: which call, and its arguments, or for open the state that it is given.
-- Assumes nothing.
use Rattle.std.specs.Prelude.{cond, List, [], ◌∷◌, ℕ, ◌+◌, ◌*◌, ◌%◌, eqb, get_or, Some, None}
use Rattle.rule.specs.Calls.{State}
use Rattle.rule.specs.History.{Asked}
use Rattle.rule.specs.declared.node.Node.{Node}
use Rattle.asking.specs.declared.queries.Query.{Query}
use Rattle.asking.specs.declared.queries.Query.TheVariants as the-query
use Rattle.asking.specs.declared.requests.Making.TheVariants as the-making
use Rattle.asking.specs.declared.requests.Request.{Request}
use Rattle.asking.specs.declared.requests.Request.TheVariants as the-request
use Rattle.asking.specs.Request.{asked_by, part}

-- the words of one call
abbrev pub call_words : ℕ
call_words = 13

abbrev pub node : ℕ → Node
node m = record { number = m }

-- the call of a kind that makes no rule, with its arguments, of which the first is the rule: 6 is a tabulate, its second argument how many of the lent bytes it
-- is given, or all where there are fewer; 8 a walk under a pass rule, its second argument, for the row that is the third; 9 a provoke: the wanted answer, the
-- pass rule, the fixed flags and those of them that are 1; 10 a replay without a pass rule of a log that is so many of the lent bytes, as for 6; 11 a replay
-- under a pass rule, its second argument, the third being how many bytes; 7 and any other is a walk without a pass rule, for the row that is the second
abbrev pub query_by : ℕ → ℕ → ℕ → ℕ → ℕ → ℕ → Query
query_by kind x y z u v =
    cond (eqb kind 6) (the-query.Tabulate (node x) y)
    (cond (eqb kind 8) (the-query.Walk (node x) (Some (node y)) z)
    (cond (eqb kind 9) (the-query.Provoke (node x) y (node z) u v)
    (cond (eqb kind 10) (the-query.Replay (node x) None y)
    (cond (eqb kind 11) (the-query.Replay (node x) (Some (node y)) z)
    (the-query.Walk (node x) None y)))))

-- the call of a kind, with its arguments: of the first a join takes the last eight bits
abbrev pub request_by : ℕ → ℕ → ℕ → ℕ → ℕ → ℕ → Request
request_by kind x y z u v =
    cond (eqb kind 0) the-request.Open
    (cond (eqb kind 1) (the-request.Constant x)
    (cond (eqb kind 2) (the-request.Make (the-making.Flag x))
    (cond (eqb kind 3) (the-request.Make (the-making.Join (x % 256) (node y) (node z)))
    (cond (eqb kind 4) (the-request.Make (the-making.Choose (node x) (node y) (node z)))
    (cond (eqb kind 5) (the-request.Make (the-making.Fix (node x) y z))
    (the-request.Ask (query_by kind x y z u v)))))))

-- the call that is coded from a word on
unfoldable pub request_at : List ℕ → ℕ → Request
request_at w at =
    request_by (get_or w at 0) (get_or w (at + 1) 0) (get_or w (at + 2) 0) (get_or w (at + 3) 0) (get_or w (at + 4) 0) (get_or w (at + 5) 0)

abbrev pub byte_at : List ℕ → ℕ → ℕ
byte_at w at = get_or w at 0 % 256

-- the state that open is given, where it is coded from a word on: n, used, and the ten places of the order
unfoldable pub given_at : List ℕ → ℕ → State
given_at w at =
    record {
      n = byte_at w (at + 1);
      places = byte_at w (at + 3) ∷ byte_at w (at + 4) ∷ byte_at w (at + 5) ∷ byte_at w (at + 6) ∷ byte_at w (at + 7) ∷ byte_at w (at + 8) ∷ byte_at w (at + 9)
          ∷ byte_at w (at + 10) ∷ byte_at w (at + 11) ∷ byte_at w (at + 12) ∷ [];
      used = get_or w (at + 2) 0;
    }

-- what call k of the list asks, counted from 0
abbrev pub asked_at : List ℕ → ℕ → Asked
asked_at w k = asked_by (request_at w (k * call_words)) (given_at w (k * call_words))

-- how many of the bytes, from the first on, it is lent
abbrev pub part_at : List ℕ → ℕ → ℕ
part_at w k = part (request_at w (k * call_words))
