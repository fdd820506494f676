-- The rows that serve (document 02, request 8): what the test of a row says, and that the first of them is the lowest.
-- Assumes nothing.
use mathlib.Core.Path.{◌≡◌, ap}
use mathlib.Core.Bool.{true, not, ◌&&◌}
use mathlib.Core.List.{List, [], ◌∷◌}
use Prim.Native.Nat.{ℕ, ◌≤◌, ◌<◌}
use native.Mathlib.Decide.{dec_lt}
use native.Mathlib.Omega.{arith}
use borrow.Author.Tests.{eqb-true, eqb-false, eq-eqb, ne_eqb, not-true}
use lib.Dec.{eqb}
use lib.ListN.{length, get_or}
use Rattle.rule.specs.Bits.{below}
use Rattle.rule.specs.Table.{fit_rows}
use Rattle.rule.specs.Provoke.{has_fixed, serves, serving, Serves, NoneServes}
use Rattle.theory.proofs.Member.{not-nil}
use Rattle.theory.proofs.Bits.{bit_high, in_below}
use Rattle.theory.proofs.Tests.{and_split, and_join, in_keep, kept_first}
use Rattle.theory.proofs.Fixed.{fixed_values, values_fixed}
use Rattle.theory.proofs.Cofactor.{row_lt}

module _ (rule : List ℕ) (wanted : ℕ) (pass : List ℕ) (fixed ones : ℕ) where
  so_serves : (row : ℕ) → Serves rule wanted pass fixed ones row → serves rule wanted pass fixed ones row ≡ true
  so_serves row s =
      and_join (ap not (ne_eqb (get_or pass row 0) 0 (λ z. omega (arith, z, s.allowed))))
      (and_join (values_fixed fixed ones row (λ i h. s.has_fixed_lem i)) (eq-eqb (get_or rule row 0) wanted s.answers))

  pub none_serves : serving rule wanted pass fixed ones ≡ [] → NoneServes rule wanted pass fixed ones
  unfolding serving
  none_serves e row s =
      not-nil (rw e at (in_keep (serves rule wanted pass fixed ones) (below (length rule)) (in_below s.there) (so_serves row s)))

  module _ (bits : fit_rows pass ≡ true) (ten : fixed < 1024) where
    serves_so : (row : ℕ) → row < length rule → serves rule wanted pass fixed ones row ≡ true → Serves rule wanted pass fixed ones row
    serves_so row h e =
        let (a, r) = and_split (not (eqb (get_or pass row 0) 0)) (has_fixed fixed ones row && eqb (get_or rule row 0) wanted) e in
        let (f, w) = and_split (has_fixed fixed ones row) (eqb (get_or rule row 0) wanted) r in
        let zero-not = eqb-false (get_or pass row 0) 0 (not-true _ a) in
        record {
          there = h;
          allowed = omega (arith, zero-not, row_lt pass bits row);
          has_fixed_lem = λ i one.
              elim (dec_lt i 10) [
                | yes l ↦ fixed_values fixed ones row f i l one
                | no d ↦ absurd (omega (arith, one, bit_high 10 fixed i ten (omega (arith, d))))
              ];
          answers = eqb-true (get_or rule row 0) wanted w;
        }

    pub first_serves : (x : ℕ) (xs : List ℕ) → serving rule wanted pass fixed ones ≡ x ∷ xs
        → Serves rule wanted pass fixed ones x × ((other : ℕ) → Serves rule wanted pass fixed ones other → x ≤ other)
    unfolding serving
    first_serves x xs e =
        let (_, h, p, least) = kept_first (serves rule wanted pass fixed ones) 0 (length rule) x xs e in (
          serves_so x (omega (arith, h)) p,
          λ other s. least other (omega arith) (omega (arith, s.there)) (so_serves other s),
        )
