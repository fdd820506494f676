-- Cofactors: their rows, two flags fixed in either sequence, one flag fixed twice, and the support of a cofactor.
-- Assumes nothing.
use mathlib.Core.Path.{◌≡◌, refl, sym, ap, ◌∙◌}
use mathlib.Core.Logic.{◌≢◌, inl, inr}
use mathlib.Core.Bool.{true, false, not, true≢false}
use mathlib.Core.List.{List}
use Prim.Native.Nat.{ℕ, zero, suc, ◌^◌, ◌<◌}
use native.Mathlib.Decide.{ℕ_discrete}
use native.Mathlib.Omega.{arith}
use lib.Dec.{ltb}
use lib.ListN.{length, get_or, length-map}
use lib.Seq.{ext_get_or}
use borrow.Author.Tests.{ltb-true, lt-ltb}
use Rattle.rule.specs.Bits.{bit, set_bit, below}
use Rattle.rule.specs.Table.{fit_rows, cofactor, depends}
use Rattle.theory.proofs.Bits.{length_from, map_below, bit_lt, set_bit_lt, set_bit_comm, set_bit_twice, set_bit_own}
use Rattle.theory.proofs.Tests.{same?, each_at, at_each}

-- ---- rows

pub length-cofactor : (i b : ℕ) (t : List ℕ) → length (cofactor i b t) ≡ length t
unfolding cofactor
length-cofactor i b t = length-map (below (length t)) _ ∙ length_from 0 (length t)

-- row r of a cofactor is the table's row with the flag fixed
pub cofactor_row : (i b : ℕ) (t : List ℕ) (r : ℕ) → r < length t → get_or (cofactor i b t) r 0 ≡ get_or t (set_bit r i b) 0
unfolding cofactor
cofactor_row i b t r h = map_below (λ (x : ℕ). get_or t (set_bit x i b) 0) (length t) r 0 h

module _ (n : ℕ) (t : List ℕ) (fit : length t ≡ 2 ^ n) where
  -- the row of a table in which j is fixed to c and then i to b
  cofactors_row : (i j b c : ℕ) → i < n → b < 2 → (r : ℕ) → r < length t
      → get_or (cofactor i b (cofactor j c t)) r 0 ≡ get_or t (set_bit (set_bit r i b) j c) 0
  cofactors_row i j b c i<n b<2 r h =
      cofactor_row i b (cofactor j c t) r (omega (arith, length-cofactor j c t))
      ∙ cofactor_row j c t (set_bit r i b) (omega (arith, set_bit_lt n r i b (omega arith) i<n b<2))

  -- two flags are fixed in either sequence
  pub cofactor_comm : (i j b c : ℕ) → i < n → j < n → b < 2 → c < 2 → i ≢ j → cofactor i b (cofactor j c t) ≡ cofactor j c (cofactor i b t)
  cofactor_comm i j b c i<n j<n b<2 c<2 i≢j =
      ext_get_or 0 (cofactor i b (cofactor j c t)) (cofactor j c (cofactor i b t)) (simp length-cofactor)
      (λ r h.
      let k : r < length t = simp length-cofactor at h in
      cofactors_row i j b c i<n b<2 r k ∙ ap (λ (x : ℕ). get_or t x 0) (set_bit_comm r i j b c i≢j b<2 c<2) ∙ sym (cofactors_row j i c b j<n c<2 r k))

  -- of one flag fixed twice the first value stands
  pub cofactor_twice : (i b c : ℕ) → i < n → b < 2 → cofactor i b (cofactor i c t) ≡ cofactor i c t
  cofactor_twice i b c i<n b<2 =
      ext_get_or 0 (cofactor i b (cofactor i c t)) (cofactor i c t) (simp length-cofactor)
      (λ r h.
      let k : r < length t = simp length-cofactor at h in
      cofactors_row i i b c i<n b<2 r k ∙ ap (λ (x : ℕ). get_or t x 0) (set_bit_twice r i b c b<2) ∙ sym (cofactor_row i c t r k))

-- ---- support

-- a table depends on a flag exactly when its cofactors there differ
pub depends-true : (v : ℕ) (t : List ℕ) → depends v t ≡ true → cofactor v 0 t ≢ cofactor v 1 t
unfolding depends
depends-true v t h e =
    elim (same? (cofactor v 0 t) (cofactor v 1 t)) [ inl s ↦ true≢false (sym h ∙ ap not s.0) | inr s ↦ s.1 e ]

pub depends-false : (v : ℕ) (t : List ℕ) → depends v t ≡ false → cofactor v 0 t ≡ cofactor v 1 t
unfolding depends
depends-false v t h =
    elim (same? (cofactor v 0 t) (cofactor v 1 t)) [ inl s ↦ s.1 | inr s ↦ absurd (true≢false (sym (ap not s.0) ∙ h)) ]

pub differ_depends : (v : ℕ) (t : List ℕ) → cofactor v 0 t ≢ cofactor v 1 t → depends v t ≡ true
unfolding depends
differ_depends v t d = elim (same? (cofactor v 0 t) (cofactor v 1 t)) [ inl s ↦ absurd (d s.1) | inr s ↦ ap not s.0 ]

pub not-depends : (v : ℕ) (t : List ℕ) → cofactor v 0 t ≡ cofactor v 1 t → depends v t ≡ false
unfolding depends
not-depends v t e = elim (same? (cofactor v 0 t) (cofactor v 1 t)) [ inl s ↦ ap not s.0 | inr s ↦ absurd (s.1 e) ]

-- to fix a flag that the table does not depend on changes nothing
pub cofactor_own : (v b : ℕ) (t : List ℕ) → b < 2 → depends v t ≡ false → cofactor v b t ≡ t
cofactor_own v b t b<2 d =
    ext_get_or 0 (cofactor v b t) t (length-cofactor v b t)
    (λ r h.
    let k : r < length t = simp length-cofactor at h in
    ap (λ (u : List ℕ). get_or u r 0) (alike b b<2 ∙ sym (alike (bit r v) (bit_lt r v)))
    ∙ cofactor_row v (bit r v) t r k
    ∙ ap (λ (x : ℕ). get_or t x 0) (set_bit_own r v))
  where
    alike : (b : ℕ) → b < 2 → cofactor v b t ≡ cofactor v 0 t
    alike zero h = refl
    alike (suc zero) h = sym (depends-false v t d)
    alike (suc (suc b)) h = absurd (omega arith)

module _ (n : ℕ) (t : List ℕ) (fit : length t ≡ 2 ^ n) where
  -- a cofactor does not depend on the flag that is fixed
  pub cofactor_free : (i b : ℕ) → i < n → depends i (cofactor i b t) ≡ false
  cofactor_free i b i<n =
      not-depends i (cofactor i b t) (cofactor_twice n t fit i 0 b i<n (omega arith) ∙ sym (cofactor_twice n t fit i 1 b i<n (omega arith)))

  -- nor on one that the table does not depend on
  pub cofactor_keeps : (v i b : ℕ) → v < n → i < n → b < 2 → depends v t ≡ false → depends v (cofactor i b t) ≡ false
  cofactor_keeps v i b v<n i<n b<2 d =
      elim (ℕ_discrete v i) [
        | yes e ↦ rw e (cofactor_free i b i<n)
        | no q ↦
            not-depends v (cofactor i b t)
            (cofactor_comm n t fit v i 0 b v<n i<n (omega arith) b<2 q
            ∙ ap (cofactor i b) (depends-false v t d)
            ∙ sym (cofactor_comm n t fit v i 1 b v<n i<n (omega arith) b<2 q))
      ]

-- ---- answers 0 and 1

-- each row of a fit table is below 2, and so is each of its cofactors'
pub row_lt : (t : List ℕ) → fit_rows t ≡ true → (r : ℕ) → get_or t r 0 < 2
unfolding fit_rows
row_lt t h r = ltb-true (get_or t r 0) 2 (each_at (λ (x : ℕ). ltb x 2) t 0 h refl r)

pub cofactor_rows : (i b : ℕ) (t : List ℕ) → fit_rows t ≡ true → fit_rows (cofactor i b t) ≡ true
unfolding fit_rows
cofactor_rows i b t h =
    at_each (λ (x : ℕ). ltb x 2) (cofactor i b t) 0
    (λ r k. lt-ltb (get_or (cofactor i b t) r 0) 2 (rw (cofactor_row i b t r (simp length-cofactor at k)) (row_lt t h (set_bit r i b))))
