-- The first line of an input, and the flags of so many rows.
-- Assumes nothing.
use mathlib.Core.Path.{◌≡◌, refl, sym, ap, ◌∙◌}
use mathlib.Core.Bool.{Bool, true, false}
use mathlib.Core.List.{List, [], ◌∷◌}
use Prim.Native.Nat.{ℕ, zero, suc, ◌+◌, ◌-◌, ◌^◌, ◌≤◌, ◌<◌}
use native.Mathlib.Nat.{not-suc-le-zero, le_of_suc-le-suc}
use native.Mathlib.Decide.{ℕ_discrete}
use native.Mathlib.Omega.{arith}
use borrow.Author.Tests.{eq-eqb, ne_eqb}
use lib.ListN.{length, get_or, take}
use lib.Seq.{take-length}
use Rattle.std.specs.Prelude.{Option, None, Some, MatchOption}
use Rattle.std.specs.Option.{unwrap_or}
use Rattle.rule.specs.Text.{read_line}
use Rattle.rule.specs.Listing.{flags_from}
use Rattle.theory.proofs.Lines.{line_ends, line_goes_on}

-- ---- the line

pub line_to : (l : List ℕ) (i : ℕ) → i < length l → ((k : ℕ) → k < i → get_or l k 0 ≡ 10 → ⊥) → get_or l i 0 ≡ 10 → take i l ≡ (read_line l).0
line_to [] i h f e = absurd (not-suc-le-zero h)
line_to (b ∷ bs) zero h f e = sym (ap (λ (r : List ℕ × List ℕ). r.0) (line_ends b bs e))
line_to (b ∷ bs) (suc i) h f e =
    ap (λ (l : List ℕ). b ∷ l) (line_to bs i (le_of_suc-le-suc h) (λ k j. f (suc k) (omega arith)) e)
    ∙ sym (ap (λ (r : List ℕ × List ℕ). r.0) (line_goes_on b bs (f 0 (omega arith))))

line_all : (l : List ℕ) → ((k : ℕ) → k < length l → get_or l k 0 ≡ 10 → ⊥) → l ≡ (read_line l).0
unfolding read_line
line_all [] f = refl
line_all (b ∷ bs) f =
    ap (λ (l : List ℕ). b ∷ l) (line_all bs (λ k j. f (suc k) (omega arith))) ∙ sym (ap (λ (r : List ℕ × List ℕ). r.0) (line_goes_on b bs (f 0 (omega arith))))

-- no byte before a place ends the line
abbrev pub Open : List ℕ → ℕ → Type 0
Open l i = (k : ℕ) → k < i → get_or l k 0 ≡ 10 → ⊥

pub open_more : (l : List ℕ) (i : ℕ) → Open l i → (get_or l i 0 ≡ 10 → ⊥) → Open l (i + 1)
open_more l i f d k h = elim (ℕ_discrete k i) [ yes e ↦ rw e d | no g ↦ f k (omega arith) ]

-- the place of the first byte that does, where there is one
abbrev pub FirstEnd : List ℕ → Option ℕ → Type 0
FirstEnd l o = MatchOption o (Open l (length l)) (λ i. (i < length l) × (get_or l i 0 ≡ 10) × Open l i)

pub line_found : (l : List ℕ) (o : Option ℕ) → FirstEnd l o → (unwrap_or o (length l) ≤ length l) × (take (unwrap_or o (length l)) l ≡ (read_line l).0)
line_found l None f = (omega arith, rw take-length (line_all l f))
line_found l (Some i) (h, e, f) = (omega arith, line_to l i h f e)

-- ---- the flags

abbrev flags_by : Bool → ℕ → ℕ → ℕ → ℕ
flags_by e more n rows = elim e [ true ↦ n | false ↦ flags_from more (suc n) rows ]

flags_here : (more n rows : ℕ) → rows ≡ 2 ^ n → flags_from (suc more) n rows ≡ n
unfolding flags_from
flags_here more n rows e = ap (λ (q : Bool). flags_by q more n rows) (eq-eqb rows (2 ^ n) e)

flags_on : (more n rows : ℕ) → (rows ≡ 2 ^ n → ⊥) → flags_from (suc more) n rows ≡ flags_from more (suc n) rows
unfolding flags_from
flags_on more n rows d = ap (λ (q : Bool). flags_by q more n rows) (ne_eqb rows (2 ^ n) d)

-- none of the powers below 2^n is the number of rows
abbrev pub Passed : ℕ → ℕ → Type 0
Passed n rows = (n ≤ 11) × (flags_from 11 0 rows ≡ flags_from (11 - n) n rows)

module _ (n rows : ℕ) (h : n < 11) (p : Passed n rows) where
  left : flags_from 11 0 rows ≡ flags_from (suc (10 - n)) n rows
  left = let e : 11 - n ≡ suc (10 - n) = omega arith in rw e at p.1

  pub flags_found : rows ≡ 2 ^ n → n ≡ flags_from 11 0 rows
  flags_found e = sym (left ∙ flags_here (10 - n) n rows e)

  pub flags_passed : (rows ≡ 2 ^ n → ⊥) → Passed (n + 1) rows
  flags_passed d =
      let e : 11 - (n + 1) ≡ 10 - n = omega arith in
      let s : n + 1 ≡ suc n = omega arith in
      (omega arith, left ∙ flags_on (10 - n) n rows d ∙ rw (e, s))

pub flags-none : (n rows : ℕ) → 11 ≤ n → Passed n rows → 11 ≡ flags_from 11 0 rows
unfolding flags_from
flags-none n rows h p =
    let e : n ≡ 11 = omega arith in
    let last : flags_from 11 0 rows ≡ 11 = rw e at p.1 in
    sym last

-- where there are such flags, the rows are as many as their power of two
flags_power : (more n rows : ℕ) → flags_from more n rows < n + more → rows ≡ 2 ^ flags_from more n rows
unfolding flags_from
flags_power zero n rows h = absurd (omega arith)
flags_power (suc more) n rows h =
    elim (ℕ_discrete rows (2 ^ n)) [
      | yes e ↦ rw (flags_here more n rows e) e
      | no d ↦
          let q = flags_on more n rows d in
          rw q (flags_power more (suc n) rows (omega (arith, q)))
    ]

pub rows_power : (rows : ℕ) → flags_from 11 0 rows ≤ 10 → rows ≡ 2 ^ flags_from 11 0 rows
rows_power rows h = flags_power 11 0 rows (omega arith)
