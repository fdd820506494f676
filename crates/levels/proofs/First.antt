-- The level of a flag is the first place that names it, or the number of flags where none does.
-- Assumes nothing.
use Rattle.std.proofs.Common.{◌≡◌, refl, ap, ◌∙◌, Bool, true, false, cond, List, [], ◌∷◌, ℕ, zero, suc, ◌+◌, ◌≤◌, ◌<◌, length, get_or, take, drop, eqb, drop-cons, add-one, arith, zero-add, Option, None, Some}
use Rattle.std.specs.List.{find, range_with_len}
use Rattle.std.specs.Option.{unwrap_or, option_map}
use Rattle.rule.specs.Order.{flags, asked_before, level}

-- of the k places from a on
first_from : (l : List ℕ) (v a k : ℕ) → a + k ≤ length l
    → unwrap_or (find (λ i. eqb (get_or l i 0) v) (range_with_len a k)) (a + k) ≡ a + level (take k (drop a l)) v
unfolding asked_before
first_from l v a zero h = refl
first_from l v a (suc k) h =
    let i : a < length l = omega arith in
    rw (drop-cons l a 0 i) (go (eqb (get_or l a 0) v) (first_from l v (a + 1) k (omega arith)))
  where
    go : (b : Bool) → unwrap_or (find (λ i. eqb (get_or l i 0) v) (range_with_len (a + 1) k)) (a + 1 + k) ≡ a + 1 + level (take k (drop (a + 1) l)) v
        → unwrap_or (cond b (Some a) (find (λ i. eqb (get_or l i 0) v) (range_with_len (a + 1) k))) (a + suc k)
        ≡ a + length (cond b [] (get_or l a 0 ∷ asked_before v (take k (drop (suc a) l))))
    go true e = omega arith
    go false e =
        let p : a + suc k ≡ a + 1 + k = omega arith in
        rw (p, ← add-one a) (omega (arith, e))

pub level_found : (l : List ℕ) (n v : ℕ) (r : Option ℕ) → n ≤ length l
    → option_map (λ x. x) r ≡ find (λ i. eqb (get_or l i 0) v) (range_with_len 0 n) → unwrap_or r n ≡ level (flags n l) v
level_found l n v None h e = ap (λ o. unwrap_or o n) e ∙ simp zero-add at (first_from l v 0 n (omega arith))
level_found l n v (Some x) h e = ap (λ o. unwrap_or o n) e ∙ simp zero-add at (first_from l v 0 n (omega arith))
