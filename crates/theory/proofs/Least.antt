-- Lists in which each member stands in a relation to all later ones, and the first member that costs least.
-- Assumes nothing.
use mathlib.Core.Path.{◌≡◌, refl, ap, subst}
use mathlib.Core.Logic.{◌⊎◌, inl, inr}
use mathlib.Core.Bool.{Bool, true, false, cond}
use mathlib.Core.List.{List, [], ◌∷◌, ◌++◌, map}
use Prim.Native.Nat.{ℕ, zero, suc, ◌≤◌, ◌<◌}
use native.Mathlib.Omega.{arith}
use lib.Dec.{ltb}
use borrow.Author.Tests.{ltb-true, ltb-false}
use Rattle.rule.specs.Bits.{from}
use Rattle.rule.specs.Tests.{add_if, keep}
use Rattle.rule.specs.Order.{first_least}
use Rattle.theory.proofs.Member.{In, head, tail, cases_cons, append_cases, eq_of_singleton, map-in}
use Rattle.theory.proofs.Bits.{from_in}
use Rattle.theory.proofs.Tests.{keep_in}

-- ---- sequences

abbrev pub Pairwise : {A : Type 0} → (A → A → Type 0) → List A → Type 0
Pairwise R [] = Unit {0}
Pairwise {A} R (x ∷ xs) = ((y : A) → In y xs → R x y) × Pairwise R xs

module _ {A : Type 0} {R : A → A → Type 0} where
  pub pairwise_map : (f : A → A) (xs : List A) → ((x y : A) → R x y → R (f x) (f y)) → Pairwise R xs → Pairwise R (map f xs)
  pairwise_map f [] g p = tt
  pairwise_map f (x ∷ xs) g p = (
    λ y m. let (z, mz, e) = map-in f xs m in subst (R (f x)) e (g x z (p.0 z mz)),
    pairwise_map f xs g p.1,
  )

  pub pairwise_append : (xs ys : List A) → Pairwise R xs → Pairwise R ys → ((x y : A) → In x xs → In y ys → R x y) → Pairwise R (xs ++ ys)
  pairwise_append [] ys p q h = q
  pairwise_append (x ∷ xs) ys p q h = (
    λ y m. elim (append_cases xs m) [ inl k ↦ p.0 y k | inr k ↦ h x y (head refl) k ],
    pairwise_append xs ys p.1 q (λ z y mz my. h z y (tail mz) my),
  )

pub pairwise_keep : {A : Type 0} (R : A → A → Type 0) (p : A → Bool) (xs : List A) → Pairwise R xs → Pairwise R (keep p xs)
unfolding keep
pairwise_keep R p [] r = tt
pairwise_keep R p (x ∷ xs) r = go (p x) (pairwise_keep R p xs r.1)
  where
    go : (b : Bool) → Pairwise R (keep p xs) → Pairwise R (add_if b x (keep p xs))
    go true k = (λ y m. r.0 y (keep_in p xs m).0, k)
    go false k = k

-- the list rises
abbrev pub Rising : List ℕ → Type 0
Rising vs = Pairwise ◌<◌ vs

pub rising-from : (a k : ℕ) → Rising (from a k)
unfolding from
rising-from a zero = tt
rising-from a (suc k) = (λ u m. (from_in (suc a) k u m).0, rising-from (suc a) k)

-- ---- the first that costs least

module _ {A : Type 0} (cost : A → ℕ) where
  -- the first of best ∷ xs that costs least
  pub first_of : A → List A → A
  first_of best [] = best
  first_of best (x ∷ xs) = first_of (cond (ltb (cost x) (cost best)) x best) xs

  -- r is, of xs, the first in the sequence R of those that cost least
  pub record IsFirst (R : A → A → Type 0) (xs : List A) (r : A) : Type 0 where
    pub member : In r xs
    pub least : (x : A) → In x xs → cost r ≤ cost x
    pub first : (x : A) → In x xs → cost x ≡ cost r → R r x

  module _ (R : A → A → Type 0) (R-refl : (x : A) → R x x) (R-trans : (x y z : A) → R x y → R y z → R x z) where
    -- `best` costs more than the next
    better : (best o : A) (os : List A) (r : A) → cost o < cost best → IsFirst R (o ∷ os) r → IsFirst R (best ∷ o ∷ os) r
    better best o os r l f =
        let h = f.least o (head refl) in
        record {
          member = tail f.member;
          least = λ p m. elim (cases_cons m) [ inl e ↦ omega (arith, ap cost e) | inr k ↦ f.least p k ];
          first = λ p m q. elim (cases_cons m) [ inl e ↦ absurd (omega (arith, ap cost e)) | inr k ↦ f.first p k q ];
        }

    -- `best` costs no more than the next, and stands before it
    worse : (best o : A) (os : List A) (r : A) → cost best ≤ cost o → R best o → IsFirst R (best ∷ os) r → IsFirst R (best ∷ o ∷ os) r
    worse best o os r l x f =
        let h = f.least best (head refl) in
        record {
          member = elim (cases_cons f.member) [ inl e ↦ head e | inr k ↦ tail (tail k) ];
          least = λ p m. elim (split p m) [ inl k ↦ f.least p k | inr e ↦ omega (arith, ap cost e) ];
          first = λ p m q.
              elim (split p m) [
                | inl k ↦ f.first p k q
                | inr e ↦ rw e (R-trans r best o (f.first best (head refl) (omega (arith, ap cost e))) x)
              ];
        }
      where
        split : (p : A) → In p (best ∷ o ∷ os) → In p (best ∷ os) ⊎ (p ≡ o)
        split p m =
            elim (cases_cons m) [ inl e ↦ inl (head e) | inr k ↦ elim (cases_cons k) [ inl e ↦ inr e | inr j ↦ inl (tail j) ] ]

    pub first_of_lem : (best : A) (xs : List A) → Pairwise R (best ∷ xs) → IsFirst R (best ∷ xs) (first_of best xs)
    unfolding first_of
    first_of_lem best [] s =
        record {
          member = head refl;
          least = λ p m. omega (arith, ap cost (eq_of_singleton m));
          first = λ p m q. rw (eq_of_singleton m) (R-refl best);
        }
    first_of_lem best (o ∷ os) s = go (ltb (cost o) (cost best)) refl (λ b s'. first_of_lem b os s')
      where
        go : (b : Bool) → ltb (cost o) (cost best) ≡ b → ((c : A) → Pairwise R (c ∷ os) → IsFirst R (c ∷ os) (first_of c os))
            → IsFirst R (best ∷ o ∷ os) (first_of (cond b o best) os)
        go true q ih = better best o os _ (ltb-true (cost o) (cost best) q) (ih o s.1)
        go false q ih =
            worse best o os _ (ltb-false (cost o) (cost best) q) (s.0 o (head refl)) (ih best (λ p m. s.0 p (tail m), s.1.1))

-- the definition of the packed order takes the first so
pub first_least_lem : (cost : List ℕ → ℕ) (best : List ℕ) (os : List (List ℕ)) → first_least cost best (cost best) os ≡ first_of cost best os
unfolding first_least first_of
first_least_lem cost best [] = refl
first_least_lem cost best (o ∷ os) = go (ltb (cost o) (cost best)) (λ b. first_least_lem cost b os)
  where
    go : (b : Bool) → ((c : List ℕ) → first_least cost c (cost c) os ≡ first_of cost c os)
        → first_least cost (cond b o best) (cond b (cost o) (cost best)) os ≡ first_of cost (cond b o best) os
    go true ih = ih o
    go false ih = ih best
