-- What the test says of a list's members: they rise by size and then by number, and each set of ten flags is among them, once.
-- Assumes nothing.
use mathlib.Core.Path.{◌≡◌, refl}
use mathlib.Core.Bool.{true, ◌&&◌}
use mathlib.Core.Logic.{inl, inr}
use mathlib.Core.List.{List, [], ◌∷◌}
use Prim.Native.Nat.{ℕ, ◌<◌}
use native.Mathlib.Nat.{lt_trans}
use native.Mathlib.Omega.{arith}
use borrow.Author.Tests.{ltb-true, eqb-true}
use lib.Dec.{ltb, eqb}
use lib.ListN.{length}
use Rattle.rule.specs.Bits.{below}
use Rattle.rule.specs.Tests.{each}
use Rattle.theory.proofs.Member.{In, not-nil, cases_cons}
use Rattle.theory.proofs.Bits.{in_below, length_from}
use Rattle.theory.proofs.Tests.{and_split, each_in}
use Rattle.theory.proofs.Perm.{Once, Exactly, perm_of_length, perm_back}
use Rattle.theory.proofs.Least.{Pairwise}
use Rattle.sets.specs.Sequence.{key, climbs, test}

abbrev pub Rises : List ℕ → Type 0
Rises l = Pairwise (λ (x y : ℕ). key x < key y) l

climbs_on : (x : ℕ) (l : List ℕ) → climbs (x ∷ l) ≡ true → climbs l ≡ true
climbs_on x [] t = refl
climbs_on x (y ∷ l) t = (and_split (ltb (key x) (key y)) (climbs (y ∷ l)) t).1

later : (x : ℕ) (l : List ℕ) → climbs (x ∷ l) ≡ true → (y : ℕ) → In y l → key x < key y
later x [] t y m = absurd (not-nil m)
later x (z ∷ l) t y m =
    let next = ltb-true _ _ (and_split (ltb (key x) (key z)) (climbs (z ∷ l)) t).0 in
    elim (cases_cons m) [ inl e ↦ rw e next | inr k ↦ lt_trans next (later z l (climbs_on x (z ∷ l) t) y k) ]

climbing : (l : List ℕ) → climbs l ≡ true → Rises l
climbing [] t = tt
climbing (x ∷ l) t = (later x l t, climbing l (climbs_on x l t))

rises_once : (l : List ℕ) → Rises l → Once l
rises_once [] r = tt
rises_once (x ∷ l) r = (λ m. omega (arith, r.0 x m), rises_once l r.1)

module _ (l : List ℕ) (t : test l ≡ true) where
  parts : (length l ≡ 1024) × (each (λ x. ltb x 1024) l ≡ true) × (climbs l ≡ true)
  parts =
      let (a, b) = and_split (eqb (length l) 1024) (each (λ x. ltb x 1024) l && climbs l) t in
      let (c, d) = and_split (each (λ x. ltb x 1024) l) (climbs l) b in
      (eqb-true _ _ a, c, d)

  pub length_is : length l ≡ 1024
  length_is = parts.0

  pub rises : Rises l
  rises = climbing l parts.2

  small : (x : ℕ) → In x l → x < 1024
  small x m = ltb-true x 1024 (each_in (λ x. ltb x 1024) l parts.1 m)

  -- as many sets as there are, and none twice: none is missing
  pub exact : Exactly (λ x. x < 1024) l
  exact =
      record {
        once = rises_once l rises;
        sound = small;
        whole = λ x h.
            perm_back
            (perm_of_length l (below 1024) (rises_once l rises) (λ y m. in_below (small y m)) (omega (arith, length_is, length_from 0 1024)))
            x
            (in_below h);
      }
