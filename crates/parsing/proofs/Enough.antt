-- How much of an input a listing needs: up to the first line end, or one byte more than a table's rows. What follows them changes nothing that is printed.
-- Assumes nothing.
use mathlib.Core.Path.{◌≡◌, refl, sym, ap, ◌∙◌}
use mathlib.Core.Bool.{Bool, true, false, ◌||◌, true≢false}
use mathlib.Core.Logic.{◌⊎◌, inl, inr}
use mathlib.Core.List.{List, [], ◌∷◌, ◌++◌}
use Prim.Native.Nat.{ℕ, zero, suc, ◌+◌, ◌-◌, ◌≤◌, ◌<◌}
use native.Mathlib.Nat.{not-suc-le-zero, le_of_suc-le-suc, sub-zero}
use native.Mathlib.Decide.{ℕ_discrete, dec_lt}
use native.Mathlib.Omega.{arith}
use borrow.Author.Tests.{lt-ltb, ltb-true, ltb-false, eqb-true}
use lib.Dec.{eqb, ltb}
use lib.ListN.{length, get_or, take, length-append}
use lib.Seq.{length-take-le, take_all, take-take, take-append_seam, get_or-take}
use Rattle.rule.specs.Refusals.{refusal}
use Rattle.rule.specs.Text.{read_line}
use Rattle.rule.specs.Listing.{most_rows, flags_of, rows_of, listing_rows, word_line, listed_or, listing}
use Rattle.parsing.specs.Final.{enough, Final}
use Rattle.theory.proofs.Lines.{line_goes_on}
use Rattle.parsing.proofs.FirstLine.{Open, open_more, line_to}

-- k bytes are all of the input, or more than a table's rows, or have a line end among them
abbrev Suffices : List ℕ → ℕ → Type 0
Suffices input k = (length input ≤ k) ⊎ ((most_rows < k) ⊎ ((i : ℕ) × (i < k) × (i < length input) × (get_or input i 0 ≡ 10)))

-- the first line end, or that there is none
first_end : (l : List ℕ) (k : ℕ) → ((i : ℕ) × (i < k) × Open l i × (get_or l i 0 ≡ 10)) ⊎ Open l k
first_end l zero = inr (λ i h. absurd (not-suc-le-zero h))
first_end l (suc k) =
    elim (first_end l k) [
      | inl (i, h, o, e) ↦ inl (i, omega arith, o, e)
      | inr o ↦
          elim (ℕ_discrete (get_or l k 0) 10) [
            | yes e ↦ inl (k, omega arith, o, e)
            | no d ↦ let s : k + 1 ≡ suc k = omega arith in inr (rw s at (open_more l k o d))
          ]
    ]

-- a line is as long as the bytes that don't end it
line_long : (l : List ℕ) (k : ℕ) → k ≤ length l → Open l k → k ≤ length (read_line l).0
line_long l zero h o = omega arith
line_long [] (suc k) h o = absurd (not-suc-le-zero h)
line_long (b ∷ bs) (suc k) h o =
    let ih = line_long bs k (le_of_suc-le-suc h) (λ i j. o (suc i) (omega arith)) in
    rw (line_goes_on b bs (o 0 (omega arith))) (omega arith)

-- what is printed goes by the line
same_line : (x y : List ℕ) → (read_line x).0 ≡ (read_line y).0 → listing x ≡ listing y
unfolding listing
same_line x y e = ap (λ (line : List ℕ). listed_or (refusal (listing_rows line)) (flags_of line) (rows_of line)) e

long_line : (x : List ℕ) → most_rows < length (read_line x).0 → listing x ≡ word_line "refused" 1
unfolding listing
long_line x h = rw (lt-ltb most_rows (length (read_line x).0) h)

module _ (input : List ℕ) (k : ℕ) (h : k < length input) where
  front : length (take k input) ≡ k
  front = length-take-le k input (omega arith)

  open_front : (i : ℕ) → i ≤ k → Open input i → Open (take k input) i
  open_front i l o j hj e = o j hj (sym (get_or-take k input j 0 (omega arith)) ∙ e)

  -- a line end among them ends the line of both
  ended : (i : ℕ) → i < k → Open input i → get_or input i 0 ≡ 10 → listing (take k input) ≡ listing input
  ended i l o e =
      same_line (take k input) input
      (sym (line_to (take k input) i (omega (arith, front)) (open_front i (omega arith) o) (get_or-take k input i 0 l ∙ e))
      ∙ take-take i k input (omega arith)
      ∙ line_to input i (omega arith) o e)

  -- with none among more than a table's rows both are too long
  endless : most_rows < k → Open input k → listing (take k input) ≡ listing input
  endless l o =
      long_line (take k input) (omega (arith, line_long (take k input) k (omega (arith, front)) (open_front k (omega arith) o)))
      ∙ sym (long_line input (omega (arith, line_long input k (omega arith) o)))

suffices : (input : List ℕ) (k : ℕ) → Suffices input k → listing (take k input) ≡ listing input
suffices input k s =
    elim (dec_lt k (length input)) [
      | no d ↦ ap listing (take_all k input (omega arith))
      | yes h ↦
          elim (first_end input k) [
            | inl (i, l, o, e) ↦ ended input k h i l o e
            | inr o ↦
                elim s [
                  | inl l ↦ absurd (omega arith)
                  | inr (inl l) ↦ endless input k h l o
                  | inr (inr (i, l, _, e)) ↦ absurd (o i l e)
                ]
          ]
    ]

-- ---- of bytes that more may follow

get_d_front : (l rest : List ℕ) (i : ℕ) → i < length l → get_or (l ++ rest) i 0 ≡ get_or l i 0
get_d_front l rest i h = sym (get_or-take (length l) (l ++ rest) i 0 h) ∙ ap (λ (m : List ℕ). get_or m i 0) (take-append_seam l rest)

final : (l rest : List ℕ) → Suffices (l ++ rest) (length l) → listing (l ++ rest) ≡ listing l
final l rest s = sym (suffices (l ++ rest) (length l) s) ∙ ap listing (take-append_seam l rest)

long_final : (l : List ℕ) → most_rows < length l → Final l
long_final l h rest = final l rest (inr (inl h))

ended_final : (l : List ℕ) (i : ℕ) → i < length l → get_or l i 0 ≡ 10 → Final l
ended_final l i h e rest = final l rest (inr (inr (i, h, omega (arith, length-append l rest), get_d_front l rest i h ∙ e)))

ends_within : (l : List ℕ) → get_or l (length l - 1) 0 ≡ 10 → length l - 1 < length l
ends_within [] e = let z : ◌≡◌ {A = ℕ} 0 10 = e in absurd (omega arith)
ends_within (b ∷ bs) e = omega arith

pub enough_final : (l : List ℕ) → enough l ≡ true → Final l
unfolding enough
enough_final l e = go (ltb most_rows (length l)) refl e
  where
    go : (b : Bool) → ltb most_rows (length l) ≡ b → (b || eqb (get_or l (length l - 1) 0) 10) ≡ true → Final l
    go true h e = long_final l (ltb-true most_rows (length l) h)
    go false h e =
        let last = eqb-true (get_or l (length l - 1) 0) 10 e in
        ended_final l (length l - 1) (ends_within l last) last

-- where more are needed, they are no more than a table's rows
short : (l : List ℕ) → enough l ≡ false → length l ≤ most_rows
unfolding enough
short l e = go (ltb most_rows (length l)) refl e
  where
    go : (b : Bool) → ltb most_rows (length l) ≡ b → (b || eqb (get_or l (length l - 1) 0) 10) ≡ false → length l ≤ most_rows
    go true h e = absurd (true≢false e)
    go false h e = ltb-false most_rows (length l) h

pub short_front : (l : List ℕ) (i : ℕ) → i ≤ length l → enough (take (i - 0) l) ≡ false → i ≤ most_rows
short_front l i h e = omega (arith, short (take i l) (rw sub-zero at e), length-take-le i l h)

-- of no bytes more are needed
pub none-enough : (l : List ℕ) → length l ≡ 0 → false ≡ enough l
unfolding enough
none-enough [] e = refl
none-enough (b ∷ bs) e = absurd (omega arith)
