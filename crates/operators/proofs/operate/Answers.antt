-- `operators::operate` meets its contract: at each code, by the four values of the two bits.
-- Assumes nothing.
use mathlib.Core.Path.{◌≡◌, refl}
use Prim.Native.Nat.{ℕ, zero, suc, ◌-◌, ◌<◌}
use native.Mathlib.Omega.{arith}
use lib.Bits.{bit_and, bit_or}
use Rattle.operators.specs.Answer.{digit_reply, answer}
use Rattle.std.specs.Prelude.{Ok}
use Rattle.operators.proofs.operate.Goals as goal

-- what holds of the four pairs of bits holds of any
four : (P : ℕ → ℕ → Type 0) → P 0 0 → P 0 1 → P 1 0 → P 1 1 → (a b : ℕ) → a < 2 → b < 2 → P a b
four P p q r s zero zero h i = p
four P p q r s zero (suc zero) h i = q
four P p q r s (suc zero) zero h i = r
four P p q r s (suc zero) (suc zero) h i = s
four P p q r s (suc (suc a)) b h i = let z : ⊥ = omega arith in absurd z
four P p q r s zero (suc (suc b)) h i = let z : ⊥ = omega arith in absurd z
four P p q r s (suc zero) (suc (suc b)) h i = let z : ⊥ = omega arith in absurd z

-- an arm that computes f is right at the code k, where it is right at the four pairs
arm : (k : ℕ) (f : ℕ → ℕ → ℕ) → digit_reply (Ok (f 0 0)) ≡ answer k 0 0 → digit_reply (Ok (f 0 1)) ≡ answer k 0 1 → digit_reply (Ok (f 1 0)) ≡ answer k 1 0 → digit_reply (Ok (f 1 1)) ≡ answer k 1 1
    → (code a b : ℕ) → code ≡ k → (a < 2) × (b < 2) → digit_reply (Ok (f a b)) ≡ answer code a b
arm k f p q r s code a b e h = rw e (four (λ (a b : ℕ). digit_reply (Ok (f a b)) ≡ answer k a b) p q r s a b h.0 h.1)

pub returns-in-1 : goal.returns-in-1
returns-in-1 c = arm 1 (λ a b. bit_and a b) refl refl refl refl _ _ _ c.in-1.is c.requires

pub returns-in-2 : goal.returns-in-2
returns-in-2 c = arm 2 (λ a b. bit_and a (1 - b)) refl refl refl refl _ _ _ c.in-2.is c.requires

pub returns-in-3 : goal.returns-in-3
returns-in-3 c = arm 3 (λ a b. a) refl refl refl refl _ _ _ c.in-3.is c.requires

pub returns-in-4 : goal.returns-in-4
returns-in-4 c = arm 4 (λ a b. bit_and (1 - a) b) refl refl refl refl _ _ _ c.in-4.is c.requires

pub returns-in-5 : goal.returns-in-5
returns-in-5 c = arm 5 (λ a b. b) refl refl refl refl _ _ _ c.in-5.is c.requires

pub returns-in-7 : goal.returns-in-7
returns-in-7 c = arm 7 (λ a b. bit_or a b) refl refl refl refl _ _ _ c.in-7.is c.requires

pub returns-in-8 : goal.returns-in-8
returns-in-8 c = arm 8 (λ a b. 1 - bit_or a b) refl refl refl refl _ _ _ c.in-8.is c.requires

pub returns-in-10 : goal.returns-in-10
returns-in-10 c = arm 10 (λ a b. 1 - b) refl refl refl refl _ _ _ c.in-10.is c.requires

pub returns-in-11 : goal.returns-in-11
returns-in-11 c = arm 11 (λ a b. bit_or a (1 - b)) refl refl refl refl _ _ _ c.in-11.is c.requires

pub returns-in-12 : goal.returns-in-12
returns-in-12 c = arm 12 (λ a b. 1 - a) refl refl refl refl _ _ _ c.in-12.is c.requires

pub returns-in-13 : goal.returns-in-13
returns-in-13 c = arm 13 (λ a b. bit_or (1 - a) b) refl refl refl refl _ _ _ c.in-13.is c.requires

pub returns-in-14 : goal.returns-in-14
returns-in-14 c = arm 14 (λ a b. 1 - bit_and a b) refl refl refl refl _ _ _ c.in-14.is c.requires

pub returns-in-15 : goal.returns-in-15
returns-in-15 c = arm 15 (λ a b. 1) refl refl refl refl _ _ _ c.in-15.is c.requires
