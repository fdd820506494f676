-- The place of a rule in a list of rules.
-- Assumes nothing.
use mathlib.Core.Path.{◌≡◌, refl, sym, ap, ◌∙◌}
use mathlib.Core.Logic.{◌≢◌, inl, inr}
use mathlib.Core.List.{List, [], ◌∷◌, ◌++◌}
use Prim.Native.Nat.{ℕ, zero, suc, ◌+◌, ◌<◌, suc-le-suc}
use native.Mathlib.Nat.{le_of_suc-le-suc}
use native.Mathlib.Omega.{arith}
use lib.ListN.{length, get_or}
use Rattle.rule.specs.Sequence.{place}
use Rattle.theory.proofs.Member.{In, head, tail, not-nil}
use Rattle.theory.proofs.Tests.{same?}
use Rattle.theory.proofs.Perm.{Once, later}
use Rattle.theory.proofs.Scan.{at_in}

place_here : (u w : List ℕ) (ws : List (List ℕ)) → u ≡ w → place u (w ∷ ws) ≡ 0
unfolding place
place_here u w ws e = elim (same? u w) [ inl h ↦ rw h.0 | inr h ↦ absurd (h.1 e) ]

place_there : (u w : List ℕ) (ws : List (List ℕ)) → u ≢ w → place u (w ∷ ws) ≡ suc (place u ws)
unfolding place
place_there u w ws d = elim (same? u w) [ inl h ↦ absurd (d h.1) | inr h ↦ rw h.0 ]

-- a rule of the list stands at its place
at_place : (u : List ℕ) (ws : List (List ℕ)) → In u ws → (place u ws < length ws) × (get_or ws (place u ws) [] ≡ u)
at_place u [] m = absurd (not-nil m)
at_place u (w ∷ ws) m =
    elim (same? u w) [
      | inl (_, e) ↦ rw (place_here u w ws e) (omega arith, sym e)
      | inr (_, d) ↦
          let (h, q) = at_place u ws (later (λ e. d (sym e)) m) in
          rw (place_there u w ws d) (suc-le-suc h, q)
    ]

pub place_lt : (u : List ℕ) (ws : List (List ℕ)) → In u ws → place u ws < length ws
place_lt u ws m = (at_place u ws m).0

pub place_is : (u : List ℕ) (ws : List (List ℕ)) → In u ws → get_or ws (place u ws) [] ≡ u
place_is u ws m = (at_place u ws m).1

-- rules of one place are one
pub place_one : (u w : List ℕ) (ws : List (List ℕ)) → In u ws → In w ws → place u ws ≡ place w ws → u ≡ w
place_one u w ws m k e = sym (place_is u ws m) ∙ ap (λ (i : ℕ). get_or ws i []) e ∙ place_is w ws k

-- the place of what stands at k, where none stands twice
pub place_at : (ws : List (List ℕ)) → Once ws → (k : ℕ) → k < length ws → place (get_or ws k []) ws ≡ k
place_at [] o k h = absurd (omega arith)
place_at (w ∷ ws) o zero h = place_here w w ws refl
place_at (w ∷ ws) o (suc k) h =
    place_there (get_or ws k []) w ws (λ e. o.0 (rw e at (at_in [] ws k (le_of_suc-le-suc h)))) ∙ ap suc (place_at ws o.1 k (le_of_suc-le-suc h))

-- in a list that goes on
pub place_left : (u : List ℕ) (ws xs : List (List ℕ)) → In u ws → place u (ws ++ xs) ≡ place u ws
place_left u [] xs m = absurd (not-nil m)
place_left u (w ∷ ws) xs m =
    elim (same? u w) [
      | inl (_, e) ↦ place_here u w (ws ++ xs) e ∙ sym (place_here u w ws e)
      | inr (_, d) ↦ place_there u w (ws ++ xs) d ∙ ap suc (place_left u ws xs (later (λ e. d (sym e)) m)) ∙ sym (place_there u w ws d)
    ]

pub place-right : (u : List ℕ) (ws xs : List (List ℕ)) → (In u ws → ⊥) → place u (ws ++ xs) ≡ length ws + place u xs
place-right u [] xs n = omega arith
place-right u (w ∷ ws) xs n =
    let ih = place-right u ws xs (λ m. n (tail m)) in
    place_there u w (ws ++ xs) (λ e. n (head e)) ∙ omega arith
