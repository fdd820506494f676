-- Sums over a list, and a count as a sum of ones.
-- Assumes nothing.
use mathlib.Core.Path.{◌≡◌, refl, sym, ap, ap₂, ◌∙◌}
use mathlib.Core.Bool.{Bool, true, false}
use mathlib.Core.List.{List, [], ◌∷◌}
use Prim.Native.Nat.{ℕ, ◌+◌, ◌*◌}
use native.Mathlib.Omega.{arith}
use lib.ListN.{length}
use Rattle.rule.specs.Bits.{sum_over}
use Rattle.rule.specs.Tests.{add_if, keep}
use Rattle.theory.proofs.Scan.{more}

pub length-add : {A : Type 0} (b : Bool) (x : A) (xs : List A) → length (add_if b x xs) ≡ more b + length xs
length-add true x xs = omega arith
length-add false x xs = omega arith

pub sum_split : (f g h : ℕ → ℕ) (xs : List ℕ) → ((x : ℕ) → h x ≡ f x + g x) → sum_over h xs ≡ sum_over f xs + sum_over g xs
unfolding sum_over
sum_split f g h [] e = refl
sum_split f g h (x ∷ xs) e = omega (arith, e x, sum_split f g h xs e)

pub sum_same : (f g : ℕ → ℕ) (xs : List ℕ) → ((x : ℕ) → f x ≡ g x) → sum_over f xs ≡ sum_over g xs
unfolding sum_over
sum_same f g [] e = refl
sum_same f g (x ∷ xs) e = ap₂ ◌+◌ (e x) (sum_same f g xs e)

pub sum-none : (xs : List ℕ) → sum_over (λ x. 0) xs ≡ 0
unfolding sum_over
sum-none [] = refl
sum-none (x ∷ xs) = omega (arith, sum-none xs)

-- sums over two lists, in either sequence
pub sum_exchange : (f : ℕ → ℕ → ℕ) (xs ys : List ℕ) → sum_over (λ x. sum_over (f x) ys) xs ≡ sum_over (λ y. sum_over (λ x. f x y) xs) ys
unfolding sum_over
sum_exchange f [] ys = sym (sum-none ys)
sum_exchange f (x ∷ xs) ys =
    ap (λ (k : ℕ). sum_over (f x) ys + k) (sum_exchange f xs ys)
    ∙ sym (sum_split (f x) (λ y. sum_over (λ x. f x y) xs) (λ y. f x y + sum_over (λ x. f x y) xs) ys (λ y. refl))

-- to count those that pass is to add 1 for each
pub sum-count : (p : ℕ → Bool) (xs : List ℕ) → sum_over (λ x. more (p x)) xs ≡ length (keep p xs)
unfolding sum_over keep
sum-count p [] = refl
sum-count p (x ∷ xs) = ap (λ (k : ℕ). more (p x) + k) (sum-count p xs) ∙ sym (length-add (p x) x (keep p xs))

-- where each member that passes r passes just one of p and q, and no other member does, the counts of these add up
pub count_split : (p q r : ℕ → Bool) (xs : List ℕ) → ((x : ℕ) → more (r x) ≡ more (p x) + more (q x))
    → length (keep r xs) ≡ length (keep p xs) + length (keep q xs)
count_split p q r xs e =
    sym (sum-count r xs)
    ∙ sum_split (λ x. more (p x)) (λ x. more (q x)) (λ x. more (r x)) xs e
    ∙ ap₂ ◌+◌ (sum-count p xs) (sum-count q xs)

-- all pass, or none
pub count_all : (b : Bool) (xs : List ℕ) → length (keep (λ x. b) xs) ≡ more b * length xs
unfolding keep
count_all true [] = refl
count_all true (x ∷ xs) = omega (arith, count_all true xs)
count_all false [] = refl
count_all false (x ∷ xs) = omega (arith, count_all false xs)
