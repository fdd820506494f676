-- Orders of the flags (document 01, "Tables, orders, nodes", "Packing", refusal 4 and what "The book beside the store" calls asked before; request 6). The one
-- asked first stands first.
-- Assumes nothing.
use Rattle.std.specs.Prelude.{◌≡◌, ◌⊎◌, Bool, cond, ◌&&◌, List, [], ◌∷◌, ◌++◌, map, ℕ, zero, suc, ◌<◌, eqb, ltb, length, take, drop, replicate}
use Rattle.rule.specs.Bits.{below}
use Rattle.rule.specs.Tests.{each, keep}
use Rattle.rule.specs.Level.{size, asked_total}

-- "An order is kept in ten bytes"
abbrev pub places : ℕ
places = 10

-- the flags of an order of n flags that is kept in ten places
abbrev pub flags : ℕ → List ℕ → List ℕ
flags n order = take n order

-- how often a number stands in a list
unfoldable pub times : ℕ → List ℕ → ℕ
times v l = length (keep (eqb v) l)

-- "An order names each flag once"
unfoldable pub each_once : ℕ → List ℕ → Bool
each_once n order = each (λ v. eqb (times v (flags n order)) 1) (below n)

-- "the places from n on being 0"
unfoldable pub rest_zero : ℕ → List ℕ → Bool
rest_zero n order = each (eqb 0) (drop n order)

-- what refusal 4 tests
unfoldable pub fit_order : ℕ → List ℕ → Bool
fit_order n order = each_once n order && rest_zero n order

-- an order of flags in its ten places
abbrev pub in_places : List ℕ → List ℕ
in_places order = take places (order ++ replicate places 0)

-- "The rising order": the flags by their numbers
abbrev pub rising : ℕ → List ℕ
rising n = in_places (below n)

-- the flags that an order asks before flag v: "the flags standing before it in the order"
unfoldable pub asked_before : ℕ → List ℕ → List ℕ
asked_before v [] = []
asked_before v (u ∷ order) = cond (eqb u v) [] (u ∷ asked_before v order)

-- the level of flag v: its place in the order
abbrev pub level : List ℕ → ℕ → ℕ
level order v = length (asked_before v order)

-- ---- all orders, in dictionary order

-- "dictionary comparison": order o stands before p, or is p
abbrev pub Lex : List ℕ → List ℕ → Type 0
Lex [] p = Unit {0}
Lex (v ∷ o) [] = ⊥
Lex (v ∷ o) (u ∷ p) = (v < u) ⊎ ((v ≡ u) × Lex o p)

-- every way to take one flag of a list, with those that are left, in the list's sequence
unfoldable pub picks : List ℕ → List (ℕ × List ℕ)
picks [] = []
picks (v ∷ vs) = (v, vs) ∷ map (λ (p : ℕ × List ℕ). (p.0, v ∷ p.1)) (picks vs)

unfoldable pub gather : (ℕ × List ℕ → List (List ℕ)) → List (ℕ × List ℕ) → List (List ℕ)
gather f [] = []
gather f (p ∷ ps) = f p ++ gather f ps

-- all orders of the k flags of a rising list, in dictionary order: by the first flag, then by the rest
unfoldable pub orders_of : ℕ → List ℕ → List (List ℕ)
orders_of zero vs = [] ∷ []
orders_of (suc k) vs = gather (λ (p : ℕ × List ℕ). map (λ o. p.0 ∷ o) (orders_of k p.1)) (picks vs)

-- "all n! orders"
abbrev pub orders : ℕ → List (List ℕ)
orders n = orders_of n (below n)

-- ---- the packed order

-- the first of `best`, whose cost is `least`, and the others that costs least
unfoldable pub first_least : (List ℕ → ℕ) → List ℕ → ℕ → List (List ℕ) → List ℕ
first_least cost best least [] = best
first_least cost best least (o ∷ os) =
    let c = cost o in
    first_least cost (cond (ltb c least) o best) (cond (ltb c least) c least) os

unfoldable pub least_of : (List ℕ → ℕ) → List (List ℕ) → List ℕ
least_of cost [] = []
least_of cost (o ∷ os) = first_least cost o (cost o) os

-- the orders of a list that cost just k, in their sequence
unfoldable pub all_at : (List ℕ → ℕ) → ℕ → List (List ℕ) → List (List ℕ)
all_at cost k os = keep (λ o. eqb (cost o) k) os

-- all that cost least, in their sequence
unfoldable pub all_least : (List ℕ → ℕ) → List (List ℕ) → List (List ℕ)
all_least cost os = all_at cost (cost (least_of cost os)) os

-- "the orders with fewest nodes": of all n! orders, in dictionary order
unfoldable pub smallest : ℕ → List ℕ → List (List ℕ)
smallest n t = all_least (λ o. size o t) (orders n)

-- "Pack now takes, among the orders with fewest nodes, one whose walks over all 2^n rows ask the fewest flags in total, and only then goes by dictionary
-- comparison." (request 6)
unfoldable pub packed : ℕ → List ℕ → List ℕ
packed n t = least_of (λ o. asked_total o t) (smallest n t)
