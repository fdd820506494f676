-- What follows the first line of an input.
-- Assumes nothing.
use mathlib.Core.Path.{◌≡◌, refl, sym, ap, ◌∙◌}
use mathlib.Core.List.{List, [], ◌∷◌}
use Prim.Native.Nat.{ℕ, suc, ◌+◌, ◌-◌, ◌≤◌}
use native.Mathlib.Decide.{ℕ_discrete}
use native.Mathlib.Numerals.{add-one}
use native.Mathlib.Omega.{arith}
use lib.ListN.{length, take, drop, length-drop, drop_of_length-le}
use lib.Seq.{length-take-le, take_all}
use Rattle.rule.specs.Text.{read_line}
use Rattle.theory.proofs.Lines.{line_ends, line_goes_on}

-- all bytes but the line and its end
pub line_behind : (l : List ℕ) → (read_line l).1 ≡ drop (suc (length (read_line l).0)) l
unfolding read_line
line_behind [] = refl
line_behind (b ∷ bs) =
    elim (ℕ_discrete b 10) [
      | yes e ↦ rw (line_ends b bs e)
      | no d ↦ rw (line_goes_on b bs d) (line_behind bs)
    ]

module _ (l : List ℕ) (i : ℕ) (h : i ≤ length l) (e : take i l ≡ (read_line l).0) where
  line_length_lem : length (read_line l).0 ≡ i
  line_length_lem = sym (ap length e) ∙ length-take-le i l h

  -- from behind the line's end
  pub behind_end : drop (i + 1) l ≡ (read_line l).1
  behind_end = rw (add-one, ← line_length_lem) (sym (line_behind l))

  -- and nothing, where the line is all
  pub none_behind : i ≡ length l → drop i l ≡ (read_line l).1
  none_behind z =
      let all : length l ≤ i = omega arith in
      let more : length l ≤ i + 1 = omega arith in
      drop_of_length-le l all ∙ sym (drop_of_length-le l more) ∙ behind_end

-- from a place on, as a part of all bytes
pub part-from : (l : List ℕ) (i : ℕ) → take (length l - i) (drop i l) ≡ drop i l
part-from l i = take_all (length l - i) (drop i l) (omega (arith, length-drop i l))
