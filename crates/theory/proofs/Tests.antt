-- What the tests of lists and tables say, and the members of a list that pass one.
-- Assumes nothing.
use mathlib.Core.Path.{◌≡◌, refl, sym, ap, ap₂, ◌∙◌}
use mathlib.Core.Logic.{◌⊎◌, inl, inr}
use mathlib.Core.Bool.{Bool, true, false, cond, ◌&&◌, true≢false, false≢true, ◌||◌}
use mathlib.Core.List.{List, [], ◌∷◌, ◌++◌}
use Prim.Native.Nat.{ℕ, zero, suc, ◌+◌, ◌≤◌, ◌<◌, suc-le-suc}
use native.Mathlib.Nat.{eq-or-lt_of_le}
use native.Mathlib.Omega.{arith}
use borrow.Author.Tests.{eqb-true, eq-eqb}
use lib.Dec.{eqb}
use lib.ListN.{length, get_or}
use Rattle.std.specs.List.{list_all, count_by, range_with_len}
use Rattle.std.proofs.lemmas.List.Recursion.{is_count_by}
use Rattle.rule.specs.Bits.{from, below}
use Rattle.rule.specs.Tests.{each, add_if, keep, same, among}
use Rattle.theory.proofs.Member.{In, head, tail, not-nil, cases_cons}
use Rattle.theory.proofs.Bits.{range_is, length_from, below_in, in_below}

-- ---- a test and the fact that it tests

-- the test passes and P holds, or it fails and P does not
abbrev pub Tested : Bool → Type 0 → Type 0
Tested b P = ((b ≡ true) × P) ⊎ ((b ≡ false) × (P → ⊥))

pub tested : {P : Type 0} (b : Bool) → (b ≡ true → P) → (P → b ≡ true) → Tested b P
tested true f g = inl (refl, f refl)
tested false f g = inr (refl, λ p. false≢true (g p))

-- tests that pass together are one
pub same_bool : (a b : Bool) → (a ≡ true → b ≡ true) → (b ≡ true → a ≡ true) → a ≡ b
same_bool true b f g = sym (f refl)
same_bool false true f g = g refl
same_bool false false f g = refl

pub and_split : (a b : Bool) → (a && b) ≡ true → (a ≡ true) × (b ≡ true)
and_split true b e = (refl, e)
and_split false b e = absurd (false≢true e)

pub or_first : (a b : Bool) → (a || b) ≡ false → a ≡ false
or_first true b e = e
or_first false b e = refl

pub or_second : (a b : Bool) → (a || b) ≡ false → b ≡ false
or_second true b e = absurd (true≢false e)
or_second false b e = e

pub and_join : {a b : Bool} → a ≡ true → b ≡ true → (a && b) ≡ true
and_join e f = rw (e, f)

pub cond_same : (b : Bool) (x : ℕ) → cond b x x ≡ x
cond_same true x = refl
cond_same false x = refl

same_eq : (x y : List ℕ) → same x y ≡ true → x ≡ y
unfolding same
same_eq [] [] e = refl
same_eq [] (y ∷ ys) e = absurd (false≢true e)
same_eq (x ∷ xs) [] e = absurd (false≢true e)
same_eq (x ∷ xs) (y ∷ ys) e =
    let h = and_split (eqb x y) (same xs ys) e in
    ap₂ {C = List ℕ} ◌∷◌ (eqb-true x y h.0) (same_eq xs ys h.1)

same_refl : (x : List ℕ) → same x x ≡ true
unfolding same
same_refl [] = refl
same_refl (x ∷ xs) = and_join (eq-eqb x x refl) (same_refl xs)

pub same? : (x y : List ℕ) → Tested (same x y) (x ≡ y)
same? x y = tested (same x y) (same_eq x y) (λ e. rw (← e) (same_refl x))

pub among? : (t : List ℕ) (us : List (List ℕ)) → Tested (among t us) (In t us)
unfolding among
among? t [] = inr (refl, not-nil)
among? t (u ∷ us) =
    elim (same? t u) [
      | inl h ↦ inl (rw h.0, head h.1)
      | inr h ↦
          elim (among? t us) [
            | inl k ↦ inl (rw (h.0, k.0), tail k.1)
            | inr k ↦ inr (rw (h.0, k.0), λ m. elim (cases_cons m) [ inl e ↦ h.1 e | inr j ↦ k.1 j ])
          ]
    ]

pub in_among : {t : List ℕ} {us : List (List ℕ)} → In t us → among t us ≡ true
in_among {t} {us} m = elim (among? t us) [ inl h ↦ h.0 | inr h ↦ absurd (h.1 m) ]

-- ---- each member passes, and the members that pass

module _ {A : Type 0} (p : A → Bool) where
  -- each passes: by the member
  pub each_in : (l : List A) → each p l ≡ true → {x : A} → In x l → p x ≡ true
  unfolding each
  each_in [] e m = absurd (not-nil m)
  each_in (y ∷ l) e m =
      let h = and_split (p y) (each p l) e in
      elim (cases_cons m) [ inl q ↦ ap p q ∙ h.0 | inr k ↦ each_in l h.1 k ]

  pub in_each_lem : (l : List A) → ((x : A) → In x l → p x ≡ true) → each p l ≡ true
  unfolding each
  in_each_lem [] f = refl
  in_each_lem (x ∷ l) f = and_join (f x (head refl)) (in_each_lem l (λ y m. f y (tail m)))

  -- by the index, past the end for the default
  pub each_at : (l : List A) (d : A) → each p l ≡ true → p d ≡ true → (k : ℕ) → p (get_or l k d) ≡ true
  unfolding each
  each_at [] d e h k = h
  each_at (x ∷ l) d e h zero = (and_split (p x) (each p l) e).0
  each_at (x ∷ l) d e h (suc k) = each_at l d (and_split (p x) (each p l) e).1 h k

  pub at_each : (l : List A) (d : A) → ((k : ℕ) → k < length l → p (get_or l k d) ≡ true) → each p l ≡ true
  unfolding each
  at_each [] d f = refl
  at_each (x ∷ l) d f = and_join (f 0 (omega arith)) (at_each l d (λ k h. f (suc k) (suc-le-suc h)))

  -- the library's word
  pub list_all_is : (l : List A) → list_all p l ≡ each p l
  unfolding each
  list_all_is [] = refl
  list_all_is (x ∷ l) = rw (list_all_is l)

  pub count_by_is : (l : List A) → count_by p l ≡ length (keep p l)
  unfolding keep
  count_by_is l = sym (is_count_by (λ xs. length (keep p xs)) p refl (λ x xs. go x xs (p x)) l)
    where
      go : (x : A) (xs : List A) (b : Bool) → length (add_if b x (keep p xs)) ≡ cond b (1 + length (keep p xs)) (length (keep p xs))
      go x xs true = omega arith
      go x xs false = refl

  -- what is kept is a member that passes
  pub keep_in : {x : A} (l : List A) → In x (keep p l) → In x l × (p x ≡ true)
  unfolding keep
  keep_in [] m = absurd (not-nil m)
  keep_in {x} (y ∷ l) m = go (p y) refl m (λ k. keep_in l k)
    where
      go : (b : Bool) → p y ≡ b → In x (add_if b y (keep p l)) → (In x (keep p l) → In x l × (p x ≡ true)) → In x (y ∷ l) × (p x ≡ true)
      go true e k ih = elim (cases_cons k) [ inl q ↦ (head q, ap p q ∙ e) | inr j ↦ let r = ih j in (tail r.0, r.1) ]
      go false e k ih = let r = ih k in (tail r.0, r.1)

  pub in_keep : {x : A} (l : List A) → In x l → p x ≡ true → In x (keep p l)
  unfolding keep
  in_keep [] m h = absurd (not-nil m)
  in_keep {x} (y ∷ l) m h = go (p y) refl (cases_cons m) (λ k. in_keep l k h)
    where
      go : (b : Bool) → p y ≡ b → (x ≡ y) ⊎ In x l → (In x l → In x (keep p l)) → In x (add_if b y (keep p l))
      go true e (inl k) ih = head k
      go true e (inr k) ih = tail (ih k)
      go false e (inl k) ih = absurd (true≢false (sym h ∙ ap p k ∙ e))
      go false e (inr k) ih = ih k

  pub keep_append : (l m : List A) → keep p (l ++ m) ≡ keep p l ++ keep p m
  unfolding keep
  keep_append [] m = refl
  keep_append (x ∷ l) m = go (p x) (keep_append l m)
    where
      go : (b : Bool) → keep p (l ++ m) ≡ keep p l ++ keep p m → add_if b x (keep p (l ++ m)) ≡ add_if b x (keep p l) ++ keep p m
      go true e = ap (λ (r : List A). x ∷ r) e
      go false e = e

  pub length_keep : (l : List A) → length (keep p l) ≤ length l
  unfolding keep
  length_keep [] = omega arith
  length_keep (x ∷ l) = go (p x) (length_keep l)
    where
      go : (b : Bool) → length (keep p l) ≤ length l → length (add_if b x (keep p l)) ≤ suc (length l)
      go true h = omega arith
      go false h = omega arith

-- two tests that agree keep the same
pub keep_same : {A : Type 0} (p q : A → Bool) (xs : List A) → ((x : A) → In x xs → p x ≡ q x) → keep p xs ≡ keep q xs
unfolding keep
keep_same {A} p q [] f = refl
keep_same {A} p q (x ∷ xs) f = ap₂ (λ (b : Bool) (l : List A). add_if b x l) (f x (head refl)) (keep_same p q xs (λ y m. f y (tail m)))

-- of numbers that rise, x passes, and none that passes is lower
abbrev pub Least : (ℕ → Bool) → ℕ → ℕ → ℕ → Type 0
Least p a k x = (a ≤ x) × (x < a + k) × (p x ≡ true) × ((y : ℕ) → a ≤ y → y < a + k → p y ≡ true → x ≤ y)

-- so it is of the first that is kept
pub kept_first : (p : ℕ → Bool) (a k x : ℕ) (xs : List ℕ) → keep p (from a k) ≡ x ∷ xs → Least p a k x
unfolding keep from
kept_first p a zero x xs e = let z : ◌≡◌ {A = ℕ} 0 1 = cc in absurd (omega arith)
kept_first p a (suc k) x xs e = go (p a) refl e (kept_first p (suc a) k x xs)
  where
    go : (b : Bool) → p a ≡ b → add_if b a (keep p (from (suc a) k)) ≡ x ∷ xs → (keep p (from (suc a) k) ≡ x ∷ xs → Least p (suc a) k x) → Least p a (suc k) x
    go true q e ih = let f : a ≡ x = cc in (omega arith, omega arith, ap p (sym f) ∙ q, λ y l h s. omega arith)
    go false q e ih =
        let (l, h, s, f) = ih e in (
          omega arith,
          omega arith,
          s,
          λ y m u t. elim (eq-or-lt_of_le m) [ inl z ↦ absurd (false≢true (sym q ∙ ap p z ∙ t)) | inr z ↦ f y z (omega arith) t ],
        )

-- no more pass than there are
pub below-keep : (p : ℕ → Bool) (k : ℕ) → length (keep p (below k)) ≤ k
below-keep p k = omega (arith, length_keep p (below k), length_from 0 k)

-- each number below n passes
pub each_below : (p : ℕ → Bool) (n : ℕ) → each p (below n) ≡ true → (k : ℕ) → k < n → p k ≡ true
each_below p n e k h = each_in p (below n) e (in_below h)

pub below_each : (p : ℕ → Bool) (n : ℕ) → ((k : ℕ) → k < n → p k ≡ true) → each p (below n) ≡ true
below_each p n f = in_each_lem p (below n) (λ k m. f k (below_in m))

-- of the numbers below n
pub list_all_below : (p : ℕ → Bool) (n : ℕ) → list_all p (range_with_len 0 n) ≡ each p (below n)
list_all_below p n = list_all_is p (range_with_len 0 n) ∙ ap (each p) (range_is 0 n)
