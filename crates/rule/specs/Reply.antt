-- What a call hands back and leaves, as the paper counts it (document 01, "Refused, by where it is found").
-- Assumes nothing.
use Rattle.std.specs.Prelude.{◌≡◌, List, ◌++◌, map, ℕ, zero, suc, length, get_or, drop}

-- what a call hands back, as the paper counts it: accepted with its values, or refused with its number and what stands in the values' place
pub data Reply : Type 0 where
  accepted : List ℕ → Reply
  refused : ℕ → List ℕ → Reply

-- "A refusal hands back its number and zeros": the reply of a call that is refused under this number, 0 for none, and has these values where it is accepted
abbrev pub reply : ℕ → List ℕ → Reply
reply zero values = accepted values
reply (suc k) values = refused (suc k) (map (λ v. 0) values)

-- the number of a reply, 0 where it is accepted
abbrev pub number_of : Reply → ℕ
number_of (accepted values) = 0
number_of (refused k values) = k

-- the values of a reply, or what stands in their place
abbrev pub values_of : Reply → List ℕ
values_of (accepted values) = values
values_of (refused k values) = values

-- its value at a place, 0 where it has none there
abbrev pub value_at : Reply → ℕ → ℕ
value_at r i = get_or (values_of r) i 0

abbrev pub Accepted : Reply → Type 0
Accepted (accepted values) = Unit {0}
Accepted (refused k values) = ⊥

-- what stands in a lent buffer after a call: `new` where it is accepted, and "It alters nothing lent" where it is refused
abbrev pub leaves : {A : Type 0} → ℕ → A → A → A
leaves zero new old = new
leaves (suc k) new old = old

-- a call that writes a run of bytes into lent ones, under a refusal's number: where it is accepted, they begin with the run and are "as found" past it; where
-- it is refused, all are
pub record WritesRun (k : ℕ) (run values bytes : List ℕ) (r : Reply) (after : List ℕ) : Type 0 where
  pub answer : r ≡ reply k values
  pub bytes_are : after ≡ leaves k (run ++ drop (length run) bytes) bytes
