-- Truth tables, cofactors and support (document 01, "Tables, orders, nodes", "The store" and "Packing"). A rule's table is the list of its rows.
-- Assumes nothing.
use Rattle.std.specs.Prelude.{Bool, not, List, [], ◌∷◌, ◌++◌, map, ℕ, ◌^◌, eqb, ltb, length, get_or}
use Rattle.rule.specs.Bits.{bit, set_bit, below}
use Rattle.rule.specs.Tests.{each, same}

-- "Its table has 2^n rows": the length that refusal 2 tests
unfoldable pub fit_length : ℕ → List ℕ → Bool
fit_length n t = eqb (length t) (2 ^ n)

-- "one byte each, 0 or 1": the bytes that refusal 3 tests
unfoldable pub fit_rows : List ℕ → Bool
fit_rows t = each (λ x. ltb x 2) t

-- a table of 2^n rows by its row r
abbrev pub tabled : ℕ → (ℕ → ℕ) → List ℕ
tabled n f = map f (below (2 ^ n))

-- Cofactor. "fix a flag": row r is the rule's row whose number is r with bit i set to b
unfoldable pub cofactor : ℕ → ℕ → List ℕ → List ℕ
cofactor i b t = map (λ r. get_or t (set_bit r i b) 0) (below (length t))

-- Support. The rule depends on flag v: its answer is not the same with the flag fixed to 0 and to 1
unfoldable pub depends : ℕ → List ℕ → Bool
depends v t = not (same (cofactor v 0 t) (cofactor v 1 t))

-- "arise by fixing the flags before v in all ways"
unfoldable pub fixings : List ℕ → List ℕ → List (List ℕ)
fixings [] t = t ∷ []
fixings (i ∷ is) t = fixings is (cofactor i 0 t) ++ fixings is (cofactor i 1 t)

-- the rule with each flag of a list fixed to the value that a row gives it
unfoldable pub restrict : List ℕ → ℕ → List ℕ → List ℕ
restrict [] row t = t
restrict (v ∷ vs) row t = restrict vs row (cofactor v (bit row v) t)
