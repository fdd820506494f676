-- The answers of provoke, from the tests that led to them and what the search found.
-- Assumes nothing.
use mathlib.Core.Path.{◌≡◌, refl, sym, ap, ◌∙◌}
use mathlib.Core.Logic.{inl, inr, ◌≢◌}
use mathlib.Core.Bool.{true, false}
use mathlib.Core.List.{List, [], ◌∷◌, ◌++◌}
use Prim.Native.Nat.{ℕ, ◌+◌, ◌^◌, ◌≤◌, ◌<◌}
use native.Mathlib.Decide.{dec_lt}
use native.Mathlib.Omega.{arith}
use borrow.Author.Tests.{ltb-false, leb-false, ne_eqb, not-false}
use lib.Dec.{eqb}
use lib.ListN.{length, get_or}
use lib.Pow.{pow_mono}
use Rattle.rule.specs.Bits.{bit}
use Rattle.rule.specs.Walk.{table_of}
use Rattle.rule.specs.Provoke.{serving_in}
use Rattle.rule.specs.Results.{provoking, answered}
use Rattle.rule.specs.Refusals.{Row, refusal, node, no_such_row, aim_rows, provoke_rows}
use Rattle.rule.specs.Reply.{accepted, refused, reply}
use Rattle.rule.specs.Calls.{Provokes}
use Rattle.theory.proofs.Bits.{bit_high}
use Rattle.theory.proofs.Walks.{smaller, fit_table, length_table}
use Rattle.theory.proofs.Sound.{sound_shape}
use Rattle.theory.proofs.Fixed.{each_fixed}
use Rattle.theory.proofs.Serving.{none_serves, first_serves}
use Rattle.theory.proofs.Refused.{passed, split_passed, refused-reply}
use Rattle.checking.proofs.Refused.{cell_rows, Taken, rows_passed}
use Rattle.refusing.specs.Tested.{node_rows, Tested}
use Rattle.refusing.proofs.Rows.{passed_on, two_nodes}
use Rattle.provoking.specs.Search.{no_row, Seeking, Lowest}

module _ (n : ℕ) (o c : List ℕ) (used m wanted p fixed ones : ℕ) where
  -- the rows ahead of those of the aim, and the last one
  abbrev ahead : List Row
  ahead = node_rows n o c used (m ∷ p ∷ [])

  abbrev last : List Row
  last = no_such_row (serving_in n c m wanted p fixed ones) ∷ []

  abbrev values : List ℕ
  values = answered n c (provoking m wanted p fixed ones) []

  -- refused under a number
  refused_by : {k : ℕ} → k ≡ refusal (provoke_rows n o c used m wanted p fixed ones) → (k ≡ 0 → ⊥) → Provokes n o c used m wanted p fixed ones (refused k (0 ∷ []))
  refused_by {k} e d = record { answer = refused-reply k values d ∙ ap (λ (i : ℕ). reply i values) e; bytes_are = refl }

  module _ {index : List ℕ} (tests : Tested (node_rows n o c used (m ∷ p ∷ p ∷ [])) c used 0 index) where
    number : 0 ≡ refusal ahead
    number = (two_nodes n o c used m p tests).number

    apart : (refusal (cell_rows n o c used) ≡ 0) × (refusal (node used m ∷ node used p ∷ []) ≡ 0)
    apart = split_passed (cell_rows n o c used) (node used m ∷ node used p ∷ []) refl (sym number)

    pub taken : Taken n o c used
    taken = rows_passed n o c used (sym apart.0)

    nodes_there : (m ≤ used + 1) × (p ≤ used + 1)
    nodes_there =
        let (a, (b, _)) = passed (node used m ∷ node used p ∷ []) refl apart.1 in
        (ltb-false (used + 1) m a, ltb-false (used + 1) p b)

    behind : {j : ℕ} → j ≡ refusal (aim_rows n wanted fixed ones ++ last) → j ≡ refusal (provoke_rows n o c used m wanted p fixed ones)
    behind e = passed_on ahead (aim_rows n wanted fixed ones ++ last) number refl refl e

    module _ (e : 0 ≡ refusal (aim_rows n wanted fixed ones)) where
      aim : (fixed < 2 ^ n) × (ones < 2 ^ n) × ((i : ℕ) → bit ones i ≡ 1 → bit fixed i ≡ 1)
      aim =
          let (_, (f, (g, (h, _)))) = passed (aim_rows n wanted fixed ones) refl (sym e) in
          let few = leb-false (2 ^ n) ones g in (
            leb-false (2 ^ n) fixed f,
            few,
            λ i one. elim (dec_lt i 10) [
              | yes l ↦ each_fixed fixed ones (not-false _ h) i l one
              | no d ↦ absurd (omega (arith, one, bit_high n ones i few (omega (arith, d, taken.few))))
            ],
          )

      -- the search starts before the first flag, from the row that has the fixed values and no other 1
      pub starts : Seeking n o 0 c used m p fixed ones
      starts =
          record {
            few = taken.few;
            order_fits = taken.ordered;
            is_sound = sound_shape n o c used taken.is_sound;
            rule_node = nodes_there.0;
            pass_node_lem = nodes_there.1;
            rule_later = omega arith;
            pass_later = omega arith;
            fixed_fits = aim.0;
            row_fits = aim.1;
            ones_fixed_lem = aim.2;
          }

      given : {i : ℕ} → i ≡ refusal last → i ≡ refusal (provoke_rows n o c used m wanted p fixed ones)
      given f = behind (passed_on (aim_rows n wanted fixed ones) last e refl refl f)

      -- what the search finds is the first of the rows that serve
      abbrev FirstIs : List ℕ → ℕ → Type 0
      FirstIs rows row = (row ≡ no_row → eqb (length rows) 0 ≡ true) × (row ≢ no_row → (eqb (length rows) 0 ≡ false) × (get_or rows 0 0 ≡ row))

      first : {row : ℕ} → Lowest n c wanted m p fixed ones row → FirstIs (serving_in n c m wanted p fixed ones) row
      first {row} f = go (serving_in n c m wanted p fixed ones) refl
        where
          go : (rows : List ℕ) → serving_in n c m wanted p fixed ones ≡ rows → FirstIs rows row
          go [] z = (
            λ _. refl,
            λ d. absurd (elim f.found_is [ inl q ↦ d q | inr v ↦ none_serves (table_of n c m) wanted (table_of n c p) fixed ones z row v ]),
          )
          go (x ∷ rows) z =
              let ten = pow_mono taken.few in
              let fit = fit_table (smaller (sound_shape n o c used taken.is_sound)) n p nodes_there.1 in
              let (v, low) = first_serves (table_of n c m) wanted (table_of n c p) fixed ones fit (omega (arith, aim.0, ten)) x rows z in
              let le = f.least x v in
              let lt = v.there in
              let far : row ≢ no_row = λ q. omega (arith, q, le, lt, length_table n c m, ten) in (
                λ q. absurd (far q),
                λ d. (ne_eqb (length (x ∷ rows)) 0 (λ q. omega arith), elim f.found_is [ inl q ↦ absurd (d q) | inr w ↦ omega (arith, le, low row w) ]),
              )

      pub row_missing : {row : ℕ} → Lowest n c wanted m p fixed ones row → row ≡ no_row → Provokes n o c used m wanted p fixed ones (refused 15 (0 ∷ []))
      row_missing f z = refused_by (given (rw ((first f).0 z))) (omega arith)

      pub row_found : {row : ℕ} → Lowest n c wanted m p fixed ones row → row ≢ no_row → Provokes n o c used m wanted p fixed ones (accepted (row ∷ []))
      row_found {row} f d =
          let (some, is) = (first f).1 d in
          let zero_is : 0 ≡ refusal (provoke_rows n o c used m wanted p fixed ones) = given (rw some) in
          record { answer = rw (sym zero_is, is); bytes_are = refl }
