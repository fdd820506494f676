-- The rows of a filling: at the last level there is one, and before that the next flag of the order splits them into two halves.
-- Assumes nothing.
use mathlib.Core.Path.{◌≡◌, refl, sym, ap, ◌∙◌}
use mathlib.Core.Logic.{inl, inr, ◌≢◌}
use mathlib.Core.Bool.{Bool, true, false, cond, ◌&&◌}
use mathlib.Core.List.{List, [], ◌∷◌, ◌++◌}
use Prim.Native.Nat.{ℕ, zero, suc, ◌+◌, ◌^◌, ◌≤◌, ◌<◌}
use native.Mathlib.Decide.{ℕ_discrete}
use native.Mathlib.Omega.{arith}
use borrow.Author.Tests.{eqb-true, eq-eqb}
use lib.Dec.{eqb}
use lib.ListN.{length, get_or, set, take, length-set}
use lib.Seq.{take_all, get_or-set_same, get_or-set_other}
use Rattle.rule.specs.Bits.{bit, set_bit}
use Rattle.rule.specs.Tests.{each}
use Rattle.rule.specs.Order.{flags, level}
use Rattle.rule.specs.Cells.{flag_at}
use Rattle.rule.specs.Walk.{walk, table_of}
use Rattle.theory.specs.Child.{child}
use Rattle.theory.specs.Level.{level_of}
use Rattle.theory.proofs.Member.{In, head, tail}
use Rattle.theory.proofs.Tests.{each_in, in_each_lem}
use Rattle.theory.proofs.Bits.{bit_lt, bit-same, bit_other, bits_eq, set_bit_lt}
use Rattle.theory.proofs.Sets.{Order}
use Rattle.theory.proofs.Orders.{order_length, fit_order_is}
use Rattle.theory.proofs.Levels.{level_lt, place_flag, place_level, place_before, place_next}
use Rattle.theory.proofs.Walks.{node, walk_end, length-tabled, tabled_row, table_row}
use Rattle.theory.proofs.Canonical.{level_record}
use Rattle.theory.proofs.Apply.{tabled_is}
use Rattle.theory.proofs.Descents.{Comes, comes, comes_row}
use Rattle.tabulating.specs.Fill.{Filling, agree, filled}

-- ---- rows that agree

agree_bits : (vs : List ℕ) (r q : ℕ) → agree vs r q ≡ true → (i : ℕ) → In i vs → bit q i ≡ bit r i
unfolding agree
agree_bits vs r q e i m = eqb-true _ _ (each_in (λ v. eqb (bit q v) (bit r v)) vs e m)

agree_self : (vs : List ℕ) (r : ℕ) → agree vs r r ≡ true
unfolding agree
agree_self vs r = in_each_lem (λ v. eqb (bit r v) (bit r v)) vs (λ v m. eq-eqb (bit r v) (bit r v) refl)

-- one flag more
agree_next : (vs : List ℕ) (v r b q : ℕ) → b < 2 → ((i : ℕ) → In i vs → v ≢ i)
    → agree (vs ++ (v ∷ [])) (set_bit r v b) q ≡ (agree vs r q && eqb (bit q v) b)
unfolding agree each
agree_next [] v r b q h f = rw (bit-same r v b h) (and_true (eqb (bit q v) b))
  where
    and_true : (x : Bool) → (x && true) ≡ x
    and_true true = refl
    and_true false = refl
agree_next (u ∷ vs) v r b q h f =
    rw (bit_other r v u b h (f u (head refl)), agree_next vs v r b q h (λ i m. f i (tail m)))
    (assoc (eqb (bit q u) (bit r u)))
  where
    assoc : (x : Bool) → (x && (agree vs r q && eqb (bit q v) b)) ≡ ((x && agree vs r q) && eqb (bit q v) b)
    assoc true = refl
    assoc false = refl

-- ---- filled bytes

-- filled with no flag fixed, the bytes are the node's table
pub filled_all : (n r : ℕ) (c : List ℕ) (m : ℕ) (bytes : List ℕ) → filled n [] r c m bytes ≡ table_of n c m
unfolding filled agree each
filled_all n r c m bytes = refl

pub length-filled : (n : ℕ) (vs : List ℕ) (r : ℕ) (c : List ℕ) (m : ℕ) (bytes : List ℕ) {after : List ℕ} → after ≡ filled n vs r c m bytes
    → length after ≡ 2 ^ n
unfolding filled
length-filled n vs r c m bytes e = ap length e ∙ length-tabled n (λ q. cond (agree vs r q) (walk c m q) (get_or bytes q 0))

-- where a row is in one of the halves, that half's answer; else neither is written
halves : (a : Bool) (x w low high old : ℕ) → x < 2 → (x ≡ 0 → low ≡ w) → (x ≡ 1 → high ≡ w)
    → cond (a && eqb x 1) high (cond (a && eqb x 0) low old) ≡ cond a w old
halves false x w low high old h f g = refl
halves true zero w low high old h f g = f refl
halves true (suc zero) w low high old h f g = g refl
halves true (suc (suc x)) w low high old h f g = absurd (omega arith)

module _ {n at row used m : ℕ} {order c bytes : List ℕ} (g : Filling n order at row c used m bytes) where
  ord : Order n (flags n order)
  ord = fit_order_is n order g.order_fits

  -- ---- every flag is fixed: one row, and an end node

  module _ (h : n ≤ at) where
    pub is_end_lem : m < 2
    is_end_lem =
        elim (node m) [
          | inl l ↦ l
          | inr (k, e) ↦
              let f = g.is_sound.flag k (omega (arith, g.node)) in
              absurd (omega (arith, g.later, ap (level_of n order c) e, level_record n order c k, level_lt ord (flag_at c k) f))
        ]

    pub leaf : set bytes row m ≡ filled n (take at (flags n order)) row c m bytes
    unfolding filled
    leaf =
        rw (take_all at (flags n order) (omega (arith, order_length n (flags n order) ord)))
        (sym
        (tabled_is n (λ q. cond (agree (flags n order) row q) (walk c m q) (get_or bytes q 0)) (set bytes row m) (length-set bytes row m ∙ g.rows)
        (λ q l. sym (at_row q l (ℕ_discrete q row)))))
      where
        at_row : (q : ℕ) → q < 2 ^ n → Dec (q ≡ row) → get_or (set bytes row m) q 0 ≡ cond (agree (flags n order) row q) (walk c m q) (get_or bytes q 0)
        at_row q l (yes e) =
            rw (e, agree_self (flags n order) row) (get_or-set_same bytes row m 0 (omega (arith, g.row_fits, g.rows)) ∙ sym (walk_end c m row is_end_lem))
        at_row q l (no d) =
            get_or-set_other bytes row q m 0 d ∙ other (agree (flags n order) row q) refl
          where
            other : (b : Bool) → agree (flags n order) row q ≡ b → get_or bytes q 0 ≡ cond b (walk c m q) (get_or bytes q 0)
            other false e = refl
            other true e = absurd (d (bits_eq n q row l g.row_fits (λ i k. agree_bits (flags n order) row q e i (ord.whole i k))))

  -- ---- the next flag

  module _ (h : at < n) where
    pub flag_lt : get_or order at 0 < n
    flag_lt = place_flag order ord h

    to : (b : ℕ) → b < 2 → Comes g.is_sound ord (get_or order at 0) b m (child c (get_or order at 0) b m)
    to b k = comes g.is_sound ord (get_or order at 0) b m g.node flag_lt (omega (arith, place_level order ord h, g.later)) k

    -- what a half is given
    pub half : (b x p : ℕ) {now : List ℕ} → b < 2 → x ≡ set_bit row (get_or order at 0) b → p ≡ child c (get_or order at 0) b m → length now ≡ 2 ^ n
        → Filling n order (at + 1) x c used p now
    half b x p k e f l =
        record {
          few = g.few;
          order_fits = g.order_fits;
          is_sound = g.is_sound;
          row_fits = rw e (set_bit_lt n row (get_or order at 0) b g.row_fits flag_lt k);
          node = rw f (to b k).le;
          later = rw f (omega (arith, (to b k).later, place_level order ord h));
          rows = l;
        }

    -- a row of a half has the answer of the node that the half comes to
    answer : (b q : ℕ) → b < 2 → q < 2 ^ n → bit q (get_or order at 0) ≡ b → walk c (child c (get_or order at 0) b m) q ≡ walk c m q
    answer b q k l e =
        sym (table_row n c (child c (get_or order at 0) b m) q l) ∙ comes_row g.is_sound ord (to b k) q l e ∙ table_row n c m q l

    in_half : (b q : ℕ) → b < 2 → agree (take (at + 1) (flags n order)) (set_bit row (get_or order at 0) b) q
        ≡ (agree (take at (flags n order)) row q && eqb (bit q (get_or order at 0)) b)
    in_half b q k =
        ap (λ (vs : List ℕ). agree vs (set_bit row (get_or order at 0) b) q) (place_next order ord h)
        ∙ agree_next (take at (flags n order)) (get_or order at 0) row b q k
        (λ i i-in e. omega (arith, place_level order ord h, ((place_before order ord h).sound i i-in).1, ap (level (flags n order)) e))

    -- both halves are filled, one after the other
    pub both : {x y p q : ℕ} {first after : List ℕ} → x ≡ set_bit row (get_or order at 0) 0 → y ≡ set_bit row (get_or order at 0) 1
        → p ≡ child c (get_or order at 0) 0 m → q ≡ child c (get_or order at 0) 1 m
        → first ≡ filled n (take (at + 1) (flags n order)) x c p bytes → after ≡ filled n (take (at + 1) (flags n order)) y c q first
        → after ≡ filled n (take at (flags n order)) row c m bytes
    unfolding filled
    both ex ey ep eq e f =
        f
        ∙ rw (e, ex, ey, ep, eq)
        (tabled_is n _ _ (length-filled n (take at (flags n order)) row c m bytes refl)
        (λ r l.
        rw (in_half 1 r (omega arith), tabled_row n _ r l, in_half 0 r (omega arith))
        (halves (agree (take at (flags n order)) row r) (bit r (get_or order at 0)) (walk c m r) _ _ _ (bit_lt r (get_or order at 0))
        (answer 0 r (omega arith) l) (answer 1 r (omega arith) l)
        ∙ sym (tabled_row n (λ q. cond (agree (take at (flags n order)) row q) (walk c m q) (get_or bytes q 0)) r l))))
