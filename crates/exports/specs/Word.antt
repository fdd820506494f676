-- What a call with a C name answers: the reply of the call that it wraps, as one number.
-- Assumes nothing.
use Rattle.std.specs.Prelude.{◌≡◌, List, ℕ, ◌+◌, ◌*◌, drop}
use Rattle.rule.specs.Reply.{Reply, accepted, refused, number_of, value_at}
use Rattle.rule.specs.Calls.{State}

-- from the lowest bit on: the refusal in 8 bits, 0 for none, then three values in 16 bits each
abbrev pub word : ℕ → ℕ → ℕ → ℕ → ℕ
word number first second third = number + first * 256 + second * 16777216 + third * 1099511627776

-- r is the number of a reply of which the call's own promise holds: its refusal and its first three values, 0 for those that it has not
abbrev pub Codes : (Reply → Type 0) → ℕ → Type 0
Codes P r = (a : Reply) × P a × (r ≡ word (number_of a) (value_at a 0) (value_at a 1) (value_at a 2))

-- the ten bytes that a call is lent for the order, or replay's ten numbers of the flags: the reply's values behind the first so many, and as they were where it
-- is refused
abbrev pub order_after : ℕ → Reply → List ℕ → List ℕ
order_after many (accepted values) old = drop many values
order_after many (refused k values) old = old

-- pack: the order goes to lent bytes
abbrev pub CodesOrder : (Reply → Type 0) → List ℕ → ℕ → List ℕ → Type 0
CodesOrder P old r places = (a : Reply) × P a × (r ≡ word (number_of a) (value_at a 0) (value_at a 1) 0) × (places ≡ order_after 2 a old)

-- and so read's, and replay's numbers of the flags
abbrev pub CodesLoaded : (Reply → Type 0) → List ℕ → ℕ → List ℕ → Type 0
CodesLoaded P old r places = (a : Reply) × P a × (r ≡ word (number_of a) (value_at a 0) (value_at a 1) (value_at a 2)) × (places ≡ order_after 3 a old)

-- the store's calls: the used number of the state that is handed back goes before the node
abbrev pub CodesState : (Reply → State → Type 0) → ℕ → Type 0
CodesState P r = (a : Reply) × (s : State) × P a s × (r ≡ word (number_of a) s.used (value_at a 0) 0)
