-- A line of some bytes, byte by byte.
-- Assumes nothing.
use mathlib.Core.Path.{◌≡◌, ap}
use mathlib.Core.Bool.{Bool, true, false}
use mathlib.Core.List.{List, [], ◌∷◌}
use Prim.Native.Nat.{ℕ}
use borrow.Author.Tests.{eq-eqb, ne_eqb}
use Rattle.rule.specs.Text.{read_line}

abbrev line_by : Bool → ℕ → List ℕ → List ℕ × List ℕ
line_by e b bs = elim e [ true ↦ ([], bs) | false ↦ (b ∷ (read_line bs).0, (read_line bs).1) ]

pub line_ends : (b : ℕ) (bs : List ℕ) → b ≡ 0x0A → read_line (b ∷ bs) ≡ ([], bs)
unfolding read_line
line_ends b bs e = ap (λ (q : Bool). line_by q b bs) (eq-eqb b 0x0A e)

pub line_goes_on : (b : ℕ) (bs : List ℕ) → (b ≡ 0x0A → ⊥) → read_line (b ∷ bs) ≡ (b ∷ (read_line bs).0, (read_line bs).1)
unfolding read_line
line_goes_on b bs d = ap (λ (q : Bool). line_by q b bs) (ne_eqb b 0x0A d)
