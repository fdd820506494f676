-- A list that passes the test is in sequence, and is the definition's list.
-- Assumes nothing.
use mathlib.Core.Path.{◌≡◌, refl, sym, ap, ap₂, subst, ◌∙◌}
use mathlib.Core.Bool.{true}
use mathlib.Core.Logic.{◌≢◌, ⊎_elim}
use mathlib.Core.List.{List, [], ◌∷◌}
use Prim.Native.Nat.{ℕ, zero, suc, ◌≤◌, ◌<◌}
use native.Mathlib.Decide.{dec_lt}
use native.Mathlib.Nat.{eq-or-lt_of_le, le_of_suc-le-suc}
use native.Mathlib.Omega.{arith}
use borrow.Author.Tests.{eqb-true, eq-eqb}
use lib.Bits.{bit_and}
use lib.Dec.{eqb}
use lib.ListN.{length, get_or}
use Rattle.rule.specs.Bits.{below}
use Rattle.rule.specs.Sets.{set_size, of_size, of_sizes, sets, set_at}
use Rattle.theory.proofs.Member.{In, head, tail, not-nil, cases_cons, append_cases, append_left, append_right}
use Rattle.theory.proofs.Bits.{below_in, in_below}
use Rattle.theory.proofs.Tests.{keep_in, in_keep}
use Rattle.theory.proofs.Perm.{Within}
use Rattle.theory.proofs.Least.{pairwise_append, Rising, rising-from, pairwise_keep}
use Rattle.theory.proofs.Scan.{at_in}
use Rattle.sets.specs.Sequence.{key, test, InSequence, TestTells}
use Rattle.sets.specs.Post.{SetAt}
use Rattle.sets.proofs.Rising.{Rises, length_is, rises, exact}
use Rattle.sets.proofs.Size.{size_most, within, whole}

-- ---- in sequence

place : (x : ℕ) (l : List ℕ) → In x l → (i : ℕ) × (i < length l) × (get_or l i 0 ≡ x)
place x [] m = absurd (not-nil m)
place x (y ∷ l) m =
    ⊎_elim (λ e. (0, omega arith, sym e)) (λ q. let (i, h, e) = place x l q in (suc i, omega arith, e)) (cases_cons m)

rising_at : (l : List ℕ) → Rises l → (i j : ℕ) → i < j → j < length l → key (get_or l i 0) < key (get_or l j 0)
rising_at [] r i j h g = absurd (omega arith)
rising_at (x ∷ l) r i zero h g = absurd (omega arith)
rising_at (x ∷ l) r zero (suc j) h g = r.0 _ (at_in 0 l j (le_of_suc-le-suc g))
rising_at (x ∷ l) r (suc i) (suc j) h g = rising_at l r.1 i j (le_of_suc-le-suc h) (le_of_suc-le-suc g)

module _ (l : List ℕ) (t : test l ≡ true) where
  small : (i : ℕ) → i < 1024 → get_or l i 0 < 1024
  small i h = (exact l t).sound _ (at_in 0 l i (omega (arith, length_is l t)))

  rising : (i j : ℕ) → i < j → j < 1024 → key (get_or l i 0) < key (get_or l j 0)
  rising i j h k = rising_at l (rises l t) i j h (omega (arith, length_is l t))

  occurs : (x : ℕ) → x < 1024 → (i : ℕ) × (i < 1024) × (get_or l i 0 ≡ x)
  occurs x h = let (i, k, e) = place x l ((exact l t).whole x h) in (i, omega (arith, length_is l t), e)

  -- of two places, the one with the lower key stands first
  before : (i j : ℕ) → i < 1024 → j < 1024 → key (get_or l i 0) < key (get_or l j 0) → i < j
  before i j h k low = go (dec_lt i j)
    where
      go : Dec (i < j) → i < j
      go (yes b) = b
      go (no d) =
          ⊎_elim
          (λ (e : j ≡ i). absurd (omega (arith, ap (λ (x : ℕ). key (get_or l x 0)) e)))
          (λ (b : j < i). absurd (omega (arith, rising j i b h)))
          (eq-or-lt_of_le (omega arith))

  once : (i j : ℕ) → i < 1024 → j < 1024 → get_or l i 0 ≡ get_or l j 0 → i ≡ j
  once i j h k e = go (dec_lt i j) (dec_lt j i)
    where
      go : Dec (i < j) → Dec (j < i) → i ≡ j
      go (yes b) _ = absurd (omega (arith, rising i j b k, ap key e))
      go (no d) (yes b) = absurd (omega (arith, rising j i b h, ap key e))
      go (no d) (no f) = omega arith

  sizes : (i j : ℕ) → i ≤ j → j < 1024 → set_size (get_or l i 0) ≤ set_size (get_or l j 0)
  unfolding key
  sizes i j h k =
      ⊎_elim
      (λ (e : i ≡ j). omega (arith, ap (λ (x : ℕ). set_size (get_or l x 0)) e))
      (λ (b : i < j). omega (arith, rising i j b k, small i (omega arith), small j k))
      (eq-or-lt_of_le h)

  subsets : (i x : ℕ) → i < 1024 → x < 1024 → bit_and x (get_or l i 0) ≡ x → x ≢ get_or l i 0 → (j : ℕ) × (j < i) × (get_or l j 0 ≡ x)
  unfolding key
  subsets i x h g sub other =
      let (j, k, e) = occurs x g in
      let less : set_size x ≤ set_size (get_or l i 0) = within 10 x (get_or l i 0) sub in
      let unlike : set_size x ≢ set_size (get_or l i 0) = λ q. other (whole 10 x (get_or l i 0) g (small i h) sub q) in
      (j, before j i k h (omega (arith, ap set_size e, e, small i h)), e)

  in_sequence_lem : InSequence l
  in_sequence_lem = record { occurs = occurs; once = once; sizes = sizes; subsets = subsets }

-- ---- the definition's list: its members, and that it rises

of_size_in : (k x : ℕ) → In x (of_size k) → (x < 1024) × (set_size x ≡ k)
unfolding of_size
of_size_in k x m = let (b, e) = keep_in (λ (y : ℕ). eqb (set_size y) k) (below 1024) m in (below_in b, eqb-true _ _ e)

in_of_size : (x : ℕ) → x < 1024 → In x (of_size (set_size x))
unfolding of_size
in_of_size x h = in_keep (λ (y : ℕ). eqb (set_size y) (set_size x)) (below 1024) (in_below h) (eq-eqb (set_size x) (set_size x) refl)

of_sizes_in : (ks : List ℕ) (x : ℕ) → In x (of_sizes ks) → (x < 1024) × In (set_size x) ks
unfolding of_sizes
of_sizes_in [] x m = absurd (not-nil m)
of_sizes_in (k ∷ ks) x m =
    ⊎_elim
    (λ q. let (h, e) = of_size_in k x q in (h, head e))
    (λ q. let (h, e) = of_sizes_in ks x q in (h, tail e))
    (append_cases (of_size k) m)

in_of_sizes : (x : ℕ) → x < 1024 → (ks : List ℕ) → In (set_size x) ks → In x (of_sizes ks)
unfolding of_sizes
in_of_sizes x h [] m = absurd (not-nil m)
in_of_sizes x h (k ∷ ks) m =
    ⊎_elim
    (λ e. append_left (of_sizes ks) (subst (λ (z : ℕ). In x (of_size z)) e (in_of_size x h)))
    (λ q. append_right (of_size k) (in_of_sizes x h ks q))
    (cases_cons m)

one_size : (k : ℕ) (l : List ℕ) → Rising l → ((x : ℕ) → In x l → set_size x ≡ k) → Rises l
unfolding key
one_size k [] r e = tt
one_size k (x ∷ l) r e =
    (λ y m. omega (arith, r.0 y m, e x (head refl), e y (tail m)), one_size k l r.1 (λ y m. e y (tail m)))

of_size-rises : (k : ℕ) → Rises (of_size k)
unfolding of_size
of_size-rises k =
    one_size k (of_size k) (pairwise_keep ◌<◌ (λ (x : ℕ). eqb (set_size x) k) (below 1024) (rising-from 0 1024)) (λ x m. (of_size_in k x m).1)

of_sizes_rise : (ks : List ℕ) → Rising ks → Rises (of_sizes ks)
unfolding of_sizes key
of_sizes_rise [] r = tt
of_sizes_rise (k ∷ ks) r =
    pairwise_append (of_size k) (of_sizes ks) (of_size-rises k) (of_sizes_rise ks r.1)
    (λ x y m q.
    let (h, e) = of_size_in k x m in
    omega (arith, r.0 (set_size y) (of_sizes_in ks y q).1))

-- ---- lists that rise and have the same members are one

same_list : (l m : List ℕ) → Rises l → Rises m → Within l m → Within m l → l ≡ m
same_list [] [] r s w v = refl
same_list [] (y ∷ m) r s w v = absurd (not-nil (v y (head refl)))
same_list (x ∷ l) [] r s w v = absurd (not-nil (w x (head refl)))
same_list (x ∷ l) (y ∷ m) r s w v = ap₂ ◌∷◌ first (same_list l m r.1 s.1 (rest r first w) (rest s (sym first) v))
  where
    first : x ≡ y
    first =
        ⊎_elim (λ e. e)
        (λ p. ⊎_elim (λ e. sym e) (λ q. absurd (omega (arith, r.0 y q, s.0 x p))) (cases_cons (v y (head refl))))
        (cases_cons (w x (head refl)))

    rest : {a b : ℕ} {p q : List ℕ} → Rises (a ∷ p) → a ≡ b → Within (a ∷ p) (b ∷ q) → Within p q
    rest {a} g e i z k = ⊎_elim (λ q. absurd (omega (arith, g.0 z k, ap key (q ∙ sym e)))) (λ q. q) (cases_cons (i z (tail k)))

is_list : (l : List ℕ) → test l ≡ true → l ≡ sets
unfolding sets
is_list l t =
    same_list l sets (rises l t) (of_sizes_rise (below 11) (rising-from 0 11))
    (λ x m. let h = (exact l t).sound x m in in_of_sizes x h (below 11) (in_below (omega (arith, size_most 10 x (omega arith) h))))
    (λ x m. (exact l t).whole x (of_sizes_in (below 11) x m).0)

pub test-tells : TestTells
test-tells l t = (in_sequence_lem l t, is_list l t)

-- ---- an entry of a table that passes

pub entry_is : (l : List ℕ) → test l ≡ true → (i : ℕ) → i < 1024 → SetAt i (get_or l i 0)
unfolding set_at
entry_is l t i h =
    let (sequence, same) = test-tells l t in
    record { is = ap (λ (m : List ℕ). get_or m i 0) same; small = small l t i h; sequence = subst InSequence same sequence }
