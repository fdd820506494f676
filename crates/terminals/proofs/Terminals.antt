-- The terminal cases of a join, by the values that a row gives to nodes: the node that is given has the operator's digit for those of the two.
-- Assumes nothing.
use mathlib.Core.Path.{◌≡◌, refl, sym, ap, ap₂, subst, ◌∙◌}
use mathlib.Core.Bool.{cond}
use Prim.Native.Nat.{ℕ, zero, suc, ◌<◌}
use native.Mathlib.Decide.{ℕ_discrete, dec_lt}
use native.Mathlib.Omega.{arith}
use borrow.Author.Tests.{lt-ltb, le-ltb, eq-eqb, ne_eqb}
use lib.Dec.{eqb}
use Rattle.rule.specs.Results.{digit}
use Rattle.terminals.specs.Terminal.{by_digits, terminal}
use Rattle.std.specs.Prelude.{Option, Some, None}

-- what holds at 0 and 1 holds below 2
two : (P : ℕ → Type 0) → P 0 → P 1 → (x : ℕ) → x < 2 → P x
two P p q zero h = p
two P p q (suc zero) h = q
two P p q (suc (suc x)) h = let z : ⊥ = omega arith in absurd z

-- a case that gives node p
abbrev Gives : ℕ → Option ℕ → Type 0
Gives p (Some m) = m ≡ p
Gives p None = ⊥

gives : {x : Option ℕ} {p : ℕ} → x ≡ Some p → Gives p x
gives {x} {p} e = subst (Gives p) (sym e) refl

-- ---- the cases

-- two end nodes, an end node beside a record, or one node twice
data Case (code f g p : ℕ) : Type 0 where
  ends : f < 2 → g < 2 → digit code f g ≡ p → Case code f g p
  first_end : f < 2 → Gives p (by_digits (digit code f 0) (digit code f 1) g) → Case code f g p
  second_end : g < 2 → Gives p (by_digits (digit code 0 g) (digit code 1 g) f) → Case code f g p
  alike : f ≡ g → Gives p (by_digits (digit code 0 0) (digit code 1 1) f) → Case code f g p

case_of : (code f g : ℕ) {p : ℕ} → terminal code f g ≡ Some p → Case code f g p
unfolding terminal
case_of code f g e =
    elim (dec_lt f 2) [
      | yes i ↦
          elim (dec_lt g 2) [
            | yes j ↦ ends i j (gives (rw (lt-ltb f 2 i, lt-ltb g 2 j) at e))
            | no j ↦ first_end i (gives (rw (lt-ltb f 2 i, le-ltb g 2 (omega arith)) at e))
          ]
      | no i ↦
          elim (dec_lt g 2) [
            | yes j ↦ second_end j (gives (rw (le-ltb f 2 (omega arith), lt-ltb g 2 j) at e))
            | no j ↦
                elim (ℕ_discrete f g) [
                  | yes q ↦ alike q (gives (rw (le-ltb f 2 (omega arith), le-ltb g 2 (omega arith), eq-eqb f g q) at e))
                  | no q ↦ absurd (gives (rw (le-ltb f 2 (omega arith), le-ltb g 2 (omega arith), ne_eqb f g q) at e))
                ]
          ]
    ]

-- ---- its value

module _ (value : ℕ → ℕ) (no_is : value 0 ≡ 0) (yes_is : value 1 ≡ 1) where
  own : (m : ℕ) → m < 2 → value m ≡ m
  own = two (λ (m : ℕ). value m ≡ m) no_is yes_is

  picked : (a b x : ℕ) {m p : ℕ} → a < 2 → b < 2 → x < 2 → value m ≡ x → Gives p (by_digits a b m) → value p ≡ cond (eqb x 0) a b
  unfolding by_digits
  picked zero zero x {m} {p} h i j q e = let r = ap value (sym e) ∙ no_is in two (λ (y : ℕ). value p ≡ cond (eqb y 0) 0 0) r r x j
  picked (suc zero) (suc zero) x {m} {p} h i j q e = let r = ap value (sym e) ∙ yes_is in two (λ (y : ℕ). value p ≡ cond (eqb y 0) 1 1) r r x j
  picked zero (suc zero) zero h i j q e = ap value (sym e) ∙ q
  picked zero (suc zero) (suc zero) h i j q e = ap value (sym e) ∙ q
  picked (suc zero) zero x h i j q e = absurd e
  picked zero (suc zero) (suc (suc x)) h i j q e = let z : ⊥ = omega arith in absurd z
  picked zero (suc (suc b)) x h i j q e = let z : ⊥ = omega arith in absurd z
  picked (suc zero) (suc (suc b)) x h i j q e = let z : ⊥ = omega arith in absurd z
  picked (suc (suc a)) b x h i j q e = let z : ⊥ = omega arith in absurd z

  by_case : (code : ℕ) {f g p : ℕ} → value f < 2 → value g < 2 → Case code f g p → value p ≡ digit code (value f) (value g)
  by_case code {f} {g} hf hg (ends i j e) =
      ap value (sym e) ∙ own (digit code f g) (omega arith) ∙ sym (ap₂ (digit code) (own f i) (own g j))
  by_case code {f} {g} hf hg (first_end i e) =
      picked (digit code f 0) (digit code f 1) (value g) (omega arith) (omega arith) hg refl e
      ∙ two (λ (x : ℕ). cond (eqb x 0) (digit code f 0) (digit code f 1) ≡ digit code f x) refl refl (value g) hg
      ∙ sym (ap (λ (x : ℕ). digit code x (value g)) (own f i))
  by_case code {f} {g} hf hg (second_end j e) =
      picked (digit code 0 g) (digit code 1 g) (value f) (omega arith) (omega arith) hf refl e
      ∙ two (λ (x : ℕ). cond (eqb x 0) (digit code 0 g) (digit code 1 g) ≡ digit code x g) refl refl (value f) hf
      ∙ sym (ap (digit code (value f)) (own g j))
  by_case code {f} {g} hf hg (alike q e) =
      picked (digit code 0 0) (digit code 1 1) (value f) (omega arith) (omega arith) hf refl e
      ∙ two (λ (x : ℕ). cond (eqb x 0) (digit code 0 0) (digit code 1 1) ≡ digit code x x) refl refl (value f) hf
      ∙ ap (λ (m : ℕ). digit code (value f) (value m)) q

  pub terminal_value : (code : ℕ) {f g p : ℕ} → value f < 2 → value g < 2 → terminal code f g ≡ Some p → value p ≡ digit code (value f) (value g)
  terminal_value code {f} {g} hf hg e = by_case code hf hg (case_of code f g e)

-- ---- which it is

-- an end node or the node itself
picked_is : (P : ℕ → Type 0) → P 0 → P 1 → {m : ℕ} → P m → (a b : ℕ) {p : ℕ} → a < 2 → Gives p (by_digits a b m) → P p
unfolding by_digits
picked_is P x y z a b h e =
    elim (dec_lt b a) [
      | yes i ↦ absurd (rw (lt-ltb b a i) at e)
      | no i ↦
          elim (ℕ_discrete a b) [
            | yes q ↦ subst P (rw (le-ltb b a (omega arith), eq-eqb a b q) at e) (two P x y a h)
            | no q ↦ subst P (rw (le-ltb b a (omega arith), ne_eqb a b q) at e) z
          ]
    ]

-- an end node or one of the two
pub terminal_is : (P : ℕ → Type 0) → P 0 → P 1 → {f g : ℕ} → P f → P g → (code : ℕ) {p : ℕ} → terminal code f g ≡ Some p → P p
terminal_is P x y {f} {g} u v code {p} e = by_case (case_of code f g e)
  where
    by_case : Case code f g p → P p
    by_case (ends i j q) = subst P q (two P x y (digit code f g) (omega arith))
    by_case (first_end i q) = picked_is P x y v (digit code f 0) (digit code f 1) (omega arith) q
    by_case (second_end j q) = picked_is P x y u (digit code 0 g) (digit code 1 g) (omega arith) q
    by_case (alike _ q) = picked_is P x y u (digit code 0 0) (digit code 1 1) (omega arith) q

-- two end nodes have one
pub down_not : (code f g : ℕ) → terminal code f g ≡ None → f < 2 → g < 2 → ⊥
unfolding terminal
down_not code f g e i j = subst (Gives (digit code f g)) (rw (lt-ltb f 2 i, lt-ltb g 2 j) at e) refl
