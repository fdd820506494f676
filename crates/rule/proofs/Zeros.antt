-- Lists of zeros.
-- Assumes nothing.
use mathlib.Core.Path.{◌≡◌, refl, sym, ap, ◌∙◌}
use mathlib.Core.List.{List, ◌∷◌, ◌++◌}
use Prim.Native.Nat.{ℕ, zero, suc, ◌+◌, ◌-◌, ◌≤◌, ◌<◌}
use native.Mathlib.Decide.{dec_lt}
use native.Mathlib.Omega.{arith}
use lib.ListN.{length, get_or, take, drop, replicate, get_or-append}
use lib.Seq.{length-take-le, get_or-take, get_or-append-add}

abbrev pub zeros : ℕ → List ℕ
zeros k = replicate k 0

pub take-zeros : (m k : ℕ) → m ≤ k → take m (zeros k) ≡ zeros m
take-zeros zero k h = refl
take-zeros (suc m) zero h = absurd (omega arith)
take-zeros (suc m) (suc k) h = ap (λ (l : List ℕ). 0 ∷ l) (take-zeros m k (omega arith))

-- behind the last one too
pub zero_at : (k i : ℕ) → get_or (zeros k) i 0 ≡ 0
zero_at zero i = refl
zero_at (suc k) zero = refl
zero_at (suc k) (suc i) = zero_at k i

pub drop-zeros : (k m : ℕ) → drop k (zeros m) ≡ zeros (m - k)
drop-zeros zero m = let e : m ≡ m - 0 = omega arith in ap zeros e
drop-zeros (suc k) zero = let e : 0 ≡ 0 - suc k = omega arith in ap zeros e
drop-zeros (suc k) (suc m) = let e : m - k ≡ suc m - suc k = omega arith in drop-zeros k m ∙ ap zeros e

-- ---- lists that are 0 from a place on

-- what stands before that place, with zeros behind it, has the same entries
pub padded : (l : List ℕ) (m z : ℕ) → m ≤ length l → ((i : ℕ) → m ≤ i → get_or l i 0 ≡ 0) → (i : ℕ) → get_or (take m l ++ zeros z) i 0 ≡ get_or l i 0
padded l m z h clear i = by (dec_lt i m)
  where
    front : length (take m l) ≡ m
    front = length-take-le m l h

    by : Dec (i < m) → get_or (take m l ++ zeros z) i 0 ≡ get_or l i 0
    by (yes q) = get_or-append (take m l) (zeros z) 0 i (omega (arith, front)) ∙ get_or-take m l i 0 q
    by (no q) =
        let e : i ≡ length (take m l) + (i - m) = omega (arith, front) in
        ap (λ (k : ℕ). get_or (take m l ++ zeros z) k 0) e
        ∙ get_or-append-add (take m l) (zeros z) (i - m) 0
        ∙ zero_at z (i - m)
        ∙ sym (clear i (omega arith))
