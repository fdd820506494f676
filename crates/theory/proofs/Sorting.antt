-- A list put in sequence: it has the same members, and none stands behind one that it has to stand before.
-- Assumes nothing.
use mathlib.Core.Path.{◌≡◌, refl}
use mathlib.Core.Logic.{inl, inr}
use mathlib.Core.Bool.{Bool, true, false, cond}
use mathlib.Core.List.{List, [], ◌∷◌}
use Rattle.rule.specs.Sequence.{insert, sorted}
use Rattle.theory.proofs.Member.{not-nil, cases_cons, Perm, nil, cons, swap, trans, perm-refl}
use Rattle.theory.proofs.Perm.{perm_in}
use Rattle.theory.proofs.Least.{Pairwise}

module _ {A : Type 0} (before : A → A → Bool) where
  insert_perm : (x : A) (ys : List A) → Perm (insert before x ys) (x ∷ ys)
  unfolding insert
  insert_perm x [] = perm-refl (x ∷ [])
  insert_perm x (y ∷ ys) = go (before y x) (insert_perm x ys)
    where
      go : (b : Bool) → Perm (insert before x ys) (x ∷ ys) → Perm (cond b (y ∷ insert before x ys) (x ∷ y ∷ ys)) (x ∷ y ∷ ys)
      go true p = trans (cons refl p) (swap refl refl)
      go false p = perm-refl (x ∷ y ∷ ys)

  -- the same list in another sequence
  pub sorted_perm : (xs : List A) → Perm (sorted before xs) xs
  unfolding sorted
  sorted_perm [] = nil
  sorted_perm (x ∷ xs) = trans (insert_perm x (sorted before xs)) (cons refl (sorted_perm xs))

  -- R holds of two in sequence: of what is to stand before something, and of what something is not to stand before
  module _ (R : A → A → Type 0) (joins : (x y z : A) → R x y → R y z → R x z) (before_is : (x y : A) → before x y ≡ true → R x y)
      (not-before : (x y : A) → before y x ≡ false → R x y) where
    insert_pairwise : (x : A) (ys : List A) → Pairwise R ys → Pairwise R (insert before x ys)
    unfolding insert
    insert_pairwise x [] p = (λ y m. absurd (not-nil m), tt)
    insert_pairwise x (y ∷ ys) p = go (before y x) refl (insert_pairwise x ys p.1)
      where
        go : (b : Bool) → before y x ≡ b → Pairwise R (insert before x ys) → Pairwise R (cond b (y ∷ insert before x ys) (x ∷ y ∷ ys))
        go true e q = (
          λ z m. elim (cases_cons (perm_in (insert_perm x ys) z m)) [ inl i ↦ rw i (before_is y x e) | inr k ↦ p.0 z k ],
          q,
        )
        go false e q = (
          λ z m. elim (cases_cons m) [ inl i ↦ rw i (not-before x y e) | inr k ↦ joins x y z (not-before x y e) (p.0 z k) ],
          p,
        )

    pub sorted_pairwise : (xs : List A) → Pairwise R (sorted before xs)
    unfolding sorted
    sorted_pairwise [] = tt
    sorted_pairwise (x ∷ xs) = insert_pairwise x (sorted before xs) (sorted_pairwise xs)
