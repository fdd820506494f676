-- Lists without repeats, and permutations of them.
-- Assumes nothing.
use mathlib.Core.Path.{◌≡◌, refl, sym, ap, ◌∙◌}
use mathlib.Core.Logic.{◌≢◌, inl, inr}
use mathlib.Core.Bool.{Bool, true, false}
use mathlib.Core.List.{List, [], ◌∷◌, ◌++◌, map}
use Prim.Native.Nat.{ℕ, zero, suc, ◌≤◌, zero-le}
use native.Mathlib.Omega.{arith}
use lib.ListN.{length}
use Rattle.rule.specs.Bits.{from}
use Rattle.rule.specs.Tests.{add_if, keep}
use Rattle.theory.proofs.Member.{In, head, tail, cases_cons, append_cases, cast, map-in, Perm, nil, cons, swap, trans, perm-refl, perm-sym}
use Rattle.theory.proofs.Bits.{from_in}
use Rattle.theory.proofs.Tests.{keep_in}

-- ---- without repeats

module _ {A : Type 0} where
  -- no member stands twice
  abbrev pub Once : List A → Type 0
  Once [] = Unit {0}
  Once (x ∷ xs) = (In x xs → ⊥) × Once xs

  -- each member of the one is a member of the other
  abbrev pub Within : List A → List A → Type 0
  Within xs ys = (x : A) → In x xs → In x ys

  -- the list has each of those that P holds of, once, and no other
  pub record Exactly (P : A → Type 0) (xs : List A) : Type 0 where
    pub once : Once xs
    pub sound : (x : A) → In x xs → P x
    pub whole : (x : A) → P x → In x xs

  pub exactly_iff : {P Q : A → Type 0} {xs : List A} → ((x : A) → P x → Q x) → ((x : A) → Q x → P x) → Exactly P xs → Exactly Q xs
  exactly_iff f g p = record { once = p.once; sound = λ x m. f x (p.sound x m); whole = λ x q. p.whole x (g x q) }

  -- a member that is not the first is one of the rest
  pub later : {x y : A} {xs : List A} → x ≢ y → In y (x ∷ xs) → In y xs
  later d m = elim (cases_cons m) [ inl e ↦ absurd (d (sym e)) | inr k ↦ k ]

  -- ---- what a permutation keeps

  pub perm_in : {xs ys : List A} → Perm xs ys → Within xs ys
  perm_in nil x m = m
  perm_in (cons e p) x m = elim (cases_cons m) [ inl q ↦ head (q ∙ e) | inr k ↦ tail (perm_in p x k) ]
  perm_in (swap e f) x m =
      elim (cases_cons m) [
        | inl q ↦ tail (head (q ∙ e))
        | inr k ↦ elim (cases_cons k) [ inl q ↦ head (q ∙ f) | inr j ↦ tail (tail j) ]
      ]
  perm_in (trans p q) x m = perm_in q x (perm_in p x m)

  pub perm_back : {xs ys : List A} → Perm xs ys → Within ys xs
  perm_back p = perm_in (perm-sym p)

  pub perm_length : {xs ys : List A} → Perm xs ys → length xs ≡ length ys
  perm_length nil = refl
  perm_length (cons e p) = ap suc (perm_length p)
  perm_length (swap e f) = refl
  perm_length (trans p q) = perm_length p ∙ perm_length q

  pub perm_once : {xs ys : List A} → Perm xs ys → Once xs → Once ys
  perm_once nil o = o
  perm_once (cons e p) o = (λ m. o.0 (cast e (perm_back p _ m)), perm_once p o.1)
  perm_once (swap e f) o = (
    λ m. elim (cases_cons m) [ inl q ↦ o.0 (head (e ∙ sym q ∙ sym f)) | inr k ↦ o.1.0 (cast f k) ],
    (λ m. o.0 (tail (cast e m)), o.1.1),
  )
  perm_once (trans p q) o = perm_once q (perm_once p o)

  -- ---- lists with the same members, without repeats

  -- a member is brought to the front
  pull : {x : A} {ys : List A} → In x ys → (zs : List A) × Perm ys (x ∷ zs)
  pull (head {x = y} {xs = zs} e) = (zs, cons (sym e) (perm-refl zs))
  pull (tail {x = y} m) = let (zs, p) = pull m in (y ∷ zs, trans (cons refl p) (swap refl refl))

  pulled : {x : A} {xs ys zs : List A} → Once (x ∷ xs) → Within (x ∷ xs) ys → Perm ys (x ∷ zs) → Within xs zs
  pulled o w p u m = later (λ e. o.0 (cast e m)) (perm_in p u (w u (tail m)))

  -- what has no repeats and stands within a list is no longer than it
  pub once_length : (xs ys : List A) → Once xs → Within xs ys → length xs ≤ length ys
  once_length [] ys o w = zero-le
  once_length (x ∷ xs) ys o w =
      let (zs, p) = pull (w x (head refl)) in
      omega (arith, perm_length p, once_length xs zs o.1 (pulled o w p))

  -- and if it is as long as that list, it is the same in another sequence
  pub perm_of_length : (xs ys : List A) → Once xs → Within xs ys → length ys ≤ length xs → Perm xs ys
  perm_of_length [] [] o w h = nil
  perm_of_length [] (y ∷ ys) o w h = absurd (omega arith)
  perm_of_length (x ∷ xs) ys o w h =
      let (zs, p) = pull (w x (head refl)) in
      trans (cons refl (perm_of_length xs zs o.1 (pulled o w p) (omega (arith, perm_length p)))) (perm-sym p)

  -- lists without repeats that have the same members are permutations of each other, and equally long
  pub perm_of_set : (xs ys : List A) → Once xs → Once ys → Within xs ys → Within ys xs → Perm xs ys
  perm_of_set xs ys o q w r = perm_of_length xs ys o w (once_length ys xs q r)

  pub once_set : (xs ys : List A) → Once xs → Once ys → Within xs ys → Within ys xs → length xs ≡ length ys
  once_set xs ys o q w r = perm_length (perm_of_set xs ys o q w r)

  pub once_append : (xs ys : List A) → Once xs → Once ys → ((x : A) → In x xs → In x ys → ⊥) → Once (xs ++ ys)
  once_append [] ys p q d = q
  once_append (x ∷ xs) ys p q d = (
    λ m. elim (append_cases xs m) [ inl k ↦ p.0 k | inr k ↦ d x (head refl) k ],
    once_append xs ys p.1 q (λ y k. d y (tail k)),
  )

  pub once_keep : (p : A → Bool) (xs : List A) → Once xs → Once (keep p xs)
  unfolding keep
  once_keep p [] o = tt
  once_keep p (x ∷ xs) o = go (p x) (once_keep p xs o.1)
    where
      go : (b : Bool) → Once (keep p xs) → Once (add_if b x (keep p xs))
      go true k = (λ m. o.0 (keep_in p xs m).0, k)
      go false k = k

pub once_from : (a k : ℕ) → Once (from a k)
unfolding from
once_from a zero = tt
once_from a (suc k) = (λ m. omega (arith, from_in (suc a) k a m), once_from (suc a) k)

-- a map that tells its arguments apart keeps a list without repeats
pub once_map : {A B : Type 0} (f : A → B) (xs : List A) → ((x y : A) → In x xs → In y xs → f x ≡ f y → x ≡ y) → Once xs → Once (map f xs)
once_map f [] g o = tt
once_map f (x ∷ xs) g o = (
  λ m. let (y, my, e) = map-in f xs m in o.0 (cast (g x y (head refl) (tail my) (sym e)) my),
  once_map f xs (λ y z my mz. g y z (tail my) (tail mz)) o.1,
)
