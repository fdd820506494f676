-- The distinct tables of a list: its members, each once.
-- Assumes nothing.
use mathlib.Core.Logic.{inl, inr}
use mathlib.Core.List.{List, [], ◌∷◌}
use Prim.Native.Nat.{ℕ}
use Rattle.rule.specs.Level.{distinct}
use Rattle.theory.proofs.Member.{head, tail, cases_cons, cast}
use Rattle.theory.proofs.Tests.{among?}
use Rattle.theory.proofs.Perm.{Once, Within}

-- the members are the list's
pub distinct_in : (ts : List (List ℕ)) → Within (distinct ts) ts
unfolding distinct
distinct_in [] x m = m
distinct_in (t ∷ ts) x m =
    elim (among? t ts) [
      | inl h ↦ tail (distinct_in ts x (rw h.0 at m))
      | inr h ↦ elim (cases_cons (rw h.0 at m)) [ inl e ↦ head e | inr k ↦ tail (distinct_in ts x k) ]
    ]

pub in_distinct : (ts : List (List ℕ)) → Within ts (distinct ts)
unfolding distinct
in_distinct [] x m = m
in_distinct (t ∷ ts) x m =
    elim (among? t ts) [
      | inl h ↦ rw h.0 (in_distinct ts x (elim (cases_cons m) [ inl e ↦ cast e h.1 | inr k ↦ k ]))
      | inr h ↦ rw h.0 (elim (cases_cons m) [ inl e ↦ head e | inr k ↦ tail (in_distinct ts x k) ])
    ]

-- none stands twice
pub distinct_once : (ts : List (List ℕ)) → Once (distinct ts)
unfolding distinct
distinct_once [] = tt
distinct_once (t ∷ ts) =
    elim (among? t ts) [
      | inl h ↦ rw h.0 (distinct_once ts)
      | inr h ↦ rw h.0 (λ m. h.1 (distinct_in ts t m), distinct_once ts)
    ]
