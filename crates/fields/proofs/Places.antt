-- Flags that are copied to the front of ten places.
-- Assumes nothing.
use mathlib.Core.Path.{◌≡◌, sym, ap, ◌∙◌}
use mathlib.Core.List.{List, ◌++◌}
use Prim.Native.Nat.{ℕ, ◌+◌, ◌-◌, ◌≤◌}
use native.Mathlib.Omega.{arith}
use lib.ListN.{length, take, drop}
use lib.Seq.{take-append-add}
use Rattle.rule.specs.Order.{places, in_places}
use Rattle.rule.proofs.Zeros.{zeros, take-zeros, drop-zeros}

pub placed : (p : List ℕ) (n : ℕ) → length p ≡ n → n ≤ places → p ++ drop n (zeros places) ≡ in_places p
placed p n e h =
    let all : length p + (places - n) ≡ places = omega arith in
    ap (λ (l : List ℕ). p ++ l) (drop-zeros n places ∙ sym (take-zeros (places - n) places (omega arith)))
    ∙ sym (take-append-add p (zeros places) (places - n))
    ∙ ap (λ (k : ℕ). take k (p ++ zeros places)) all
