-- Where the stretches start, set by set.
-- Assumes nothing.
use mathlib.Core.Path.{◌≡◌, sym, ap, ap₂, ◌∙◌}
use mathlib.Core.List.{List}
use Prim.Native.Nat.{ℕ, ◌+◌, ◌^◌, ◌≤◌, ◌<◌}
use native.Mathlib.Nat.{pow-le-pow_right}
use native.Mathlib.Numerals.{add-one}
use native.Mathlib.Omega.{arith}
use borrow.Author.Count.{below_more}
use lib.ListN.{length, get_or, set, length-set}
use lib.Pow.{pow_mono}
use lib.Seq.{get_or-set_same, get_or-set_other}
use Rattle.rule.specs.Sets.{stretch, stretch_at}
use Rattle.stretches.proofs.Stretches.{next, fits}

-- the cells of a workspace are few enough for a start
pub cells_most : (n : ℕ) → n ≤ 10 → 3 ^ n ≤ 59049
cells_most n h = pow-le-pow_right (omega arith) h

-- the starts of the sets below S
pub record Starting (n : ℕ) (starts : List ℕ) (at S : ℕ) : Type 0 where
  pub few : n ≤ 10
  pub within : S ≤ 2 ^ n
  pub lent : length starts ≡ 1024
  pub at_is : at ≡ stretch_at n S
  pub is : (T : ℕ) → T < S → get_or starts T 0 ≡ stretch_at n T

pub starting_more : {n at S k : ℕ} {starts : List ℕ} → Starting n starts at S → S < 2 ^ n → k ≡ stretch n S → Starting n (set starts S at) (at + k) (S + 1)
starting_more {n} {at} {S} {k} {starts} p h e =
    record {
      few = p.few;
      within = omega arith;
      lent = length-set starts S at ∙ p.lent;
      at_is = ap₂ ◌+◌ p.at_is e ∙ sym (next n S) ∙ ap (stretch_at n) (sym (add-one S));
      is = below_more _ _ (λ T l. get_or-set_other starts S T at 0 (omega arith) ∙ p.is T l)
          (get_or-set_same starts S at 0 (omega (arith, p.lent, pow_mono {j = 10} p.few)) ∙ p.at_is);
    }

pub starting_fits : {n at S k : ℕ} {starts : List ℕ} → Starting n starts at S → S < 2 ^ n → k ≡ stretch n S → at + k ≤ 59049
starting_fits {n} {S = S} p h e = omega (arith, ap₂ ◌+◌ p.at_is e, fits n S p.few h, cells_most n p.few)
