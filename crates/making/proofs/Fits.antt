-- What is known of a call's arguments where no row before 10 applies.
-- Assumes nothing.
use mathlib.Core.Path.{◌≡◌}
use mathlib.Core.List.{List, [], ◌∷◌}
use Prim.Native.Nat.{ℕ, ◌+◌, ◌≤◌, ◌<◌}
use borrow.Author.Tests.{ltb-false, leb-false}
use lib.Dec.{ltb, leb}
use Rattle.rule.specs.Results.{flag, join, choose, fix}
use Rattle.rule.specs.Refusals.{node, operator_argument, value_argument}
use Rattle.theory.proofs.Refused.{row_passed}
use Rattle.refusing.specs.Tested.{tested_rows, Tested}
use Rattle.refusing.proofs.Rows.{own_pass}

module _ (n : ℕ) (o c : List ℕ) (used : ℕ) {k : ℕ} {index : List ℕ} where
  pub flag_fits : (i : ℕ) → Tested (tested_rows n o c used (flag i)) c used k index → k ≡ 0 → i < n
  flag_fits i t z = leb-false n i (row_passed (leb n i) 8 [] (own_pass n o c used (flag i) t z)).0

  pub join_fits : (code f g : ℕ) → Tested (tested_rows n o c used (join code f g)) c used k index → k ≡ 0
      → (code ≤ 15) × (f ≤ used + 1) × (g ≤ used + 1)
  join_fits code f g t z =
      let (a, e₁) = row_passed (ltb (used + 1) f) 6 (node used g ∷ operator_argument code ∷ []) (own_pass n o c used (join code f g) t z) in
      let (b, e₂) = row_passed (ltb (used + 1) g) 6 (operator_argument code ∷ []) e₁ in
      let (d, e₃) = row_passed (ltb 15 code) 8 [] e₂ in
      (ltb-false 15 code d, ltb-false (used + 1) f a, ltb-false (used + 1) g b)

  pub choose_fits : (f g h : ℕ) → Tested (tested_rows n o c used (choose f g h)) c used k index → k ≡ 0
      → (f ≤ used + 1) × (g ≤ used + 1) × (h ≤ used + 1)
  choose_fits f g h t z =
      let (a, e₁) = row_passed (ltb (used + 1) f) 6 (node used g ∷ node used h ∷ []) (own_pass n o c used (choose f g h) t z) in
      let (b, e₂) = row_passed (ltb (used + 1) g) 6 (node used h ∷ []) e₁ in
      let (d, e₃) = row_passed (ltb (used + 1) h) 6 [] e₂ in
      (ltb-false (used + 1) f a, ltb-false (used + 1) g b, ltb-false (used + 1) h d)

  pub fix_fits : (m i b : ℕ) → Tested (tested_rows n o c used (fix m i b)) c used k index → k ≡ 0
      → (m ≤ used + 1) × (i < n) × (b ≤ 1)
  fix_fits m i b t z =
      let (a, e₁) = row_passed (ltb (used + 1) m) 6 ((leb n i, 9) ∷ value_argument b ∷ []) (own_pass n o c used (fix m i b) t z) in
      let (p, e₂) = row_passed (leb n i) 8 (value_argument b ∷ []) e₁ in
      let (d, e₃) = row_passed (ltb 1 b) 8 [] e₂ in
      (ltb-false (used + 1) m a, leb-false n i p, ltb-false 1 b d)
