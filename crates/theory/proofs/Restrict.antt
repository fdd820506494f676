-- A table restricted to a row's values of some flags: what a drawing has come to when it has asked these.
-- Assumes nothing.
use mathlib.Core.Path.{◌≡◌, refl, sym, ap, ◌∙◌}
use mathlib.Core.List.{List, [], ◌∷◌, ◌++◌}
use Prim.Native.Nat.{ℕ, ◌^◌, ◌<◌}
use native.Mathlib.Decide.{ℕ_discrete}
use native.Mathlib.Omega.{arith}
use lib.ListN.{length, get_or}
use Rattle.rule.specs.Bits.{bit, set_bit}
use Rattle.rule.specs.Table.{cofactor, fixings, restrict}
use Rattle.theory.proofs.Member.{In, head, tail, not-nil, Perm, nil, cons, swap, trans}
use Rattle.theory.proofs.Bits.{bit_lt, bit-same, bit_other, bits_eq, set_bit_lt}
use Rattle.theory.proofs.Cofactor.{length-cofactor, cofactor_row, cofactor_comm}
use Rattle.theory.proofs.Friedman.{Flags, branch}
use Rattle.theory.proofs.Perm.{Once, Within, later, perm_back, perm_of_set}

pub length-restrict : (vs : List ℕ) (row : ℕ) (t : List ℕ) → length (restrict vs row t) ≡ length t
unfolding restrict
length-restrict [] row t = refl
length-restrict (v ∷ vs) row t = length-restrict vs row (cofactor v (bit row v) t) ∙ length-cofactor v (bit row v) t

-- it arises by fixing the flags
pub restrict_in : (vs : List ℕ) (row : ℕ) (t : List ℕ) → In (restrict vs row t) (fixings vs t)
unfolding restrict
restrict_in [] row t = unfold fixings in head refl
restrict_in (v ∷ vs) row t = branch v vs t (bit row v) (bit_lt row v) (restrict_in vs row (cofactor v (bit row v) t))

-- one flag more
pub restrict_snoc : (vs : List ℕ) (v row : ℕ) (t : List ℕ) → restrict (vs ++ (v ∷ [])) row t ≡ cofactor v (bit row v) (restrict vs row t)
unfolding restrict
restrict_snoc [] v row t = refl
restrict_snoc (u ∷ vs) v row t = restrict_snoc vs v row (cofactor u (bit row u) t)

-- two rows with the same values of the flags restrict alike
pub restrict-agree : (vs : List ℕ) (row rest : ℕ) (t : List ℕ) → ((i : ℕ) → In i vs → bit row i ≡ bit rest i) → restrict vs row t ≡ restrict vs rest t
unfolding restrict
restrict-agree [] row rest t f = refl
restrict-agree (v ∷ vs) row rest t f =
    restrict-agree vs row rest (cofactor v (bit row v) t) (λ i m. f i (tail m))
    ∙ ap (λ (b : ℕ). restrict vs rest (cofactor v b t)) (f v (head refl))

-- ---- in any sequence

restrict_swap : (n row i j : ℕ) (l t : List ℕ) → length t ≡ 2 ^ n → i < n → j < n → restrict (i ∷ j ∷ l) row t ≡ restrict (j ∷ i ∷ l) row t
unfolding restrict
restrict_swap n row i j l t fit i<n j<n = go (ℕ_discrete i j)
  where
    go : Dec (i ≡ j) → restrict (i ∷ j ∷ l) row t ≡ restrict (j ∷ i ∷ l) row t
    go (yes e) = rw e
    go (no d) =
        ap (restrict l row) (cofactor_comm n t fit j i (bit row j) (bit row i) j<n i<n (bit_lt row j) (bit_lt row i) (λ e. d (sym e)))

restrict_perm : (n row : ℕ) {l m : List ℕ} → Perm l m → Flags n l → (t : List ℕ) → length t ≡ 2 ^ n → restrict l row t ≡ restrict m row t
unfolding restrict
restrict_perm n row nil small t fit = refl
restrict_perm n row (cons {a = a} {b = a'} {l₁ = l} {l₂ = m} e p) small t fit =
    restrict_perm n row p (λ i q. small i (tail q)) (cofactor a (bit row a) t) (length-cofactor a (bit row a) t ∙ fit)
    ∙ ap (λ (i : ℕ). restrict m row (cofactor i (bit row i) t)) e
restrict_perm n row (swap {a = a} {b = b} {a' = b'} {b' = a'} {l = l} e e') small t fit =
    rw (← e, ← e') (restrict_swap n row a b l t fit (small a (head refl)) (small b (tail (head refl))))
restrict_perm n row (trans p q) small t fit =
    restrict_perm n row p small t fit ∙ restrict_perm n row q (λ i r. small i (perm_back p i r)) t fit

-- the rule left by fixing flags as in a row goes by their set
pub restrict-set : (n row : ℕ) (before before' : List ℕ) → Once before → Once before' → Within before before' → Within before' before → Flags n before
    → (t : List ℕ) → length t ≡ 2 ^ n → restrict before row t ≡ restrict before' row t
restrict-set n row before before' o o' w w' small t fit = restrict_perm n row (perm_of_set before before' o o' w w') small t fit

-- one flag more, fixed after the others or before them
pub restrict_next : (n row v : ℕ) (l t : List ℕ) → length t ≡ 2 ^ n → v < n → Flags n l → cofactor v (bit row v) (restrict l row t) ≡ restrict (v ∷ l) row t
unfolding restrict
restrict_next n row v [] t fit v<n f = refl
restrict_next n row v (u ∷ l) t fit v<n f =
    restrict_next n row v l (cofactor u (bit row u) t) (length-cofactor u (bit row u) t ∙ fit) v<n (λ i m. f i (tail m))
    ∙ restrict_swap n row u v l t fit (f u (head refl)) v<n

-- ---- every flag fixed

-- r with the row's values of the flags
set_all : List ℕ → ℕ → ℕ → ℕ
set_all [] row r = r
set_all (v ∷ vs) row r = set_bit (set_all vs row r) v (bit row v)

set_all_lt : (n : ℕ) (vs : List ℕ) (row r : ℕ) → Flags n vs → r < 2 ^ n → set_all vs row r < 2 ^ n
unfolding set_all
set_all_lt n [] row r f h = h
set_all_lt n (v ∷ vs) row r f h =
    set_bit_lt n (set_all vs row r) v (bit row v) (set_all_lt n vs row r (λ i m. f i (tail m)) h) (f v (head refl)) (bit_lt row v)

set_all_bit : (vs : List ℕ) (row r i : ℕ) → In i vs → bit (set_all vs row r) i ≡ bit row i
unfolding set_all
set_all_bit [] row r i m = absurd (not-nil m)
set_all_bit (v ∷ vs) row r i m = go (ℕ_discrete v i) (λ k. set_all_bit vs row r i k)
  where
    go : Dec (v ≡ i) → (In i vs → bit (set_all vs row r) i ≡ bit row i) → bit (set_bit (set_all vs row r) v (bit row v)) i ≡ bit row i
    go (yes e) ih = ap (bit (set_bit (set_all vs row r) v (bit row v))) (sym e) ∙ bit-same (set_all vs row r) v (bit row v) (bit_lt row v) ∙ ap (bit row) e
    go (no d) ih = bit_other (set_all vs row r) v i (bit row v) (bit_lt row v) d ∙ ih (later d m)

restrict_row : (n : ℕ) (vs : List ℕ) (row : ℕ) (t : List ℕ) (r : ℕ) → length t ≡ 2 ^ n → Flags n vs → r < 2 ^ n
    → get_or (restrict vs row t) r 0 ≡ get_or t (set_all vs row r) 0
unfolding restrict set_all
restrict_row n [] row t r l f h = refl
restrict_row n (v ∷ vs) row t r l f h =
    restrict_row n vs row (cofactor v (bit row v) t) r (length-cofactor v (bit row v) t ∙ l) (λ i m. f i (tail m)) h
    ∙ cofactor_row v (bit row v) t (set_all vs row r) (omega (arith, set_all_lt n vs row r (λ i m. f i (tail m)) h))

-- with each flag fixed, every row is the one row
pub restrict_all : (n : ℕ) (vs : List ℕ) (row : ℕ) (t : List ℕ) → length t ≡ 2 ^ n → Flags n vs → ((i : ℕ) → i < n → In i vs) → row < 2 ^ n
    → (r : ℕ) → r < 2 ^ n → get_or (restrict vs row t) r 0 ≡ get_or t row 0
restrict_all n vs row t l f w k r h =
    restrict_row n vs row t r l f h
    ∙ ap (λ (x : ℕ). get_or t x 0) (bits_eq n (set_all vs row r) row (set_all_lt n vs row r f h) k (λ i g. set_all_bit vs row r i (w i g)))
