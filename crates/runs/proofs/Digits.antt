-- Decimal digits: the last one behind those of a tenth, and how many there are.
-- Assumes nothing.
use mathlib.Core.Path.{◌≡◌, refl, sym, ap, ◌∙◌}
use mathlib.Core.Bool.{Bool, true, false}
use mathlib.Core.List.{List, [], ◌∷◌, ◌++◌, append_assoc}
use Prim.Native.Nat.{ℕ, zero, suc, ◌+◌, ◌*◌, ◌/◌, ◌%◌, ◌≤◌, ◌<◌}
use native.Mathlib.Decide.{dec_lt}
use native.Mathlib.Omega.{arith}
use borrow.Author.Tests.{lt-ltb, le-ltb}
use lib.ListN.{length, length-append}
use Rattle.rule.specs.Text.{text, digit_byte, decimal_in, decimal, number, line_end}
use Rattle.runs.specs.Run.{Puts}
use Rattle.runs.proofs.Puts.{puts_more}

-- ---- the digits

abbrev digits_by : Bool → ℕ → ℕ → List ℕ
digits_by b fuel x = elim b [ true ↦ digit_byte x ∷ [] | false ↦ decimal_in fuel (x / 10) ++ (digit_byte (x % 10) ∷ []) ]

pub one_digit : (fuel x : ℕ) → x < 10 → decimal_in (suc fuel) x ≡ digit_byte x ∷ []
unfolding decimal_in
one_digit fuel x h = ap (λ (b : Bool). digits_by b fuel x) (lt-ltb x 10 h)

pub more-digits : (fuel x : ℕ) → 10 ≤ x → decimal_in (suc fuel) x ≡ decimal_in fuel (x / 10) ++ (digit_byte (x % 10) ∷ [])
unfolding decimal_in
more-digits fuel x h = ap (λ (b : Bool). digits_by b fuel x) (le-ltb x 10 h)

decimal_few : (x : ℕ) → x < 10 → decimal x ≡ digit_byte x ∷ []
unfolding decimal_in
decimal_few zero h = refl
decimal_few (suc x) h = one_digit x (suc x) h

no_digits : (fuel : ℕ) → decimal_in fuel 0 ≡ decimal 0
no_digits zero = refl
no_digits (suc fuel) = one_digit fuel 0 (omega arith) ∙ sym (decimal_few 0 (omega arith))

-- any fuel from the number on is enough
enough : (f g x : ℕ) → x ≤ f → x ≤ g → decimal_in f x ≡ decimal_in g x
enough zero g x h k = let e : x ≡ 0 = omega arith in rw e (sym (no_digits g))
enough (suc f) zero x h k = let e : x ≡ 0 = omega arith in rw e (no_digits (suc f))
enough (suc f) (suc g) x h k =
    elim (dec_lt x 10) [
      | yes l ↦ one_digit f x l ∙ sym (one_digit g x l)
      | no d ↦
          let l : 10 ≤ x = omega arith in
          more-digits f x l
          ∙ ap (λ (l : List ℕ). l ++ (digit_byte (x % 10) ∷ [])) (enough f g (x / 10) (omega arith) (omega arith))
          ∙ sym (more-digits g x l)
    ]

decimal-more : (x : ℕ) → 10 ≤ x → decimal x ≡ decimal (x / 10) ++ (digit_byte (x % 10) ∷ [])
decimal-more zero h = absurd (omega arith)
decimal-more (suc x) h =
    more-digits x (suc x) h
    ∙ ap (λ (l : List ℕ). l ++ (digit_byte (suc x % 10) ∷ [])) (enough x (suc x / 10) (suc x / 10) (omega arith) (omega arith))

-- ---- their number

abbrev tens : ℕ → ℕ
tens zero = 10
tens (suc k) = tens k * 10

pub length_one : (x : ℕ) → x < 10 → length (decimal x) ≡ 1
length_one x h = ap length (decimal_few x h)

pub length_more : (x : ℕ) → 10 ≤ x → length (decimal x) ≡ length (decimal (x / 10)) + 1
length_more x h = ap length (decimal-more x h) ∙ length-append (decimal (x / 10)) (digit_byte (x % 10) ∷ [])

digits_le : (k x : ℕ) → x < tens k → length (decimal x) ≤ suc k
digits_le zero x h = omega (arith, length_one x h)
digits_le (suc k) x h =
    elim (dec_lt x 10) [
      | yes l ↦ omega (arith, length_one x l)
      | no d ↦ let l : 10 ≤ x = omega arith in omega (arith, length_more x l, digits_le k (x / 10) (omega arith))
    ]

pub digits-two : (x : ℕ) → x < 100 → length (decimal x) ≤ 2
digits-two x h = digits_le 1 x (omega arith)

-- a number of 16 bits, alone and with its blank
pub digits_fit : (x : ℕ) → x < 65536 → length (decimal x) ≤ 5
digits_fit x h = digits_le 4 x (omega arith)

pub number_le : (x : ℕ) → x < 65536 → length (number x) ≤ 6
unfolding text
number_le x h = omega (arith, digits_fit x h)

-- ---- written

pub few_fits : (x : ℕ) {at k : ℕ} → x < 10 → at + length (decimal x) ≤ k → at < k
few_fits x h l = omega (arith, length_one x h)

pub puts_few : (x : ℕ) {b d : List ℕ} {at r : ℕ} → x < 10 → Puts b at ((48 + x) ∷ []) r d → Puts b at (decimal x) r d
puts_few x h p = let e : 48 + x ≡ x + 48 = omega arith in rw (decimal_few x h, ← e) p

pub puts_tens : (x : ℕ) {b d e : List ℕ} {at m r : ℕ} → 10 ≤ x → at + length (decimal x) ≤ length b → Puts b at (decimal (x / 10)) m d
    → Puts d m ((48 + x % 10) ∷ []) r e → Puts b at (decimal x) r e
puts_tens x h l p q =
    let e : 48 + x % 10 ≡ x % 10 + 48 = omega arith in
    rw (decimal-more x h, ← e) (puts_more (omega (arith, length_more x h)) p q)

pub puts_number : (x : ℕ) {b d e : List ℕ} {at m r : ℕ} → x < 65536 → at + 6 ≤ length b → Puts b at (32 ∷ []) m d → Puts d m (decimal x) r e
    → Puts b at (number x) r e
unfolding text
puts_number x h l p q = puts_more (omega (arith, digits_fit x h)) p q

module _ (word : List ℕ) (x : ℕ) {b d : List ℕ} {at m : ℕ} (h : x < 65536) (l : at + (length word + 7) ≤ length b) (p : Puts b at word m d) where
  pub line_fits : {e : List ℕ} {r : ℕ} → Puts d m (number x) r e → r < length b
  line_fits q = omega (arith, number_le x h, p.next_is, q.next_is)

  pub puts_line : {e f : List ℕ} {r s : ℕ} → Puts d m (number x) r e → Puts e r (10 ∷ []) s f → Puts b at (word ++ (number x ++ line_end)) s f
  puts_line q n =
      let a = length-append word (number x) in
      rw (← append_assoc word (number x) line_end)
      (puts_more (omega (arith, number_le x h)) (puts_more (omega (arith, number_le x h)) p q) n)

  pub line_ends : {e f : List ℕ} {r s : ℕ} → Puts d m (number x) r e → Puts e r (10 ∷ []) s f → s ≤ at + (length word + 7)
  line_ends q n = omega (arith, number_le x h, p.next_is, q.next_is, n.next_is)
