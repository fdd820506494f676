-- A record added behind the used ones: put where there is room, or in longer cells.
-- Assumes nothing.
use mathlib.Core.Path.{◌≡◌, sym, ap, ◌∙◌}
use mathlib.Core.Logic.{inl, inr}
use mathlib.Core.List.{List, ◌++◌}
use Prim.Native.Nat.{ℕ, ◌+◌, ◌*◌, ◌≤◌, ◌<◌}
use native.Mathlib.Nat.{add-zero}
use native.Mathlib.Omega.{arith}
use lib.ListN.{get_or, take, get_or-eq_default}
use Rattle.rule.specs.Cells.{width, room, flag_at, low_at, high_at, in_cells}
use Rattle.cells.specs.Record.{put_record}
use Rattle.cells.proofs.Record.{behind_length, behind_old, behind_own, put_length, put_else, put_flag, put_low, put_high}

-- d is c with this record behind the used ones
pub record Added (c : List ℕ) (used v low high : ℕ) (d : List ℕ) : Type 0 where
  pub fits : used + 1 ≤ room d
  pub agree : (i : ℕ) → i < used * width → get_or d i 0 ≡ get_or c i 0
  pub flag_is : flag_at d used ≡ v
  pub low_is : low_at d used ≡ low
  pub high_is : high_at d used ≡ high
  pub clear : (i : ℕ) → (used + 1) * width ≤ i → get_or d i 0 ≡ 0

-- longer cells, in which there would be room
pub longer : List ℕ → ℕ → ℕ → ℕ → ℕ → List ℕ
longer c used v low high = take (used * width) c ++ in_cells v low high

module _ {used : ℕ} {c : List ℕ} (v low high : ℕ) (within : used ≤ room c) (clear : (i : ℕ) → used * width ≤ i → get_or c i 0 ≡ 0) where
  pub added_put : used < room c → Added c used v low high (put_record c used v low high)
  added_put space =
      record {
        fits = omega (arith, put_length c used v low high space);
        agree = λ i h. put_else c used v low high space i (inl h);
        flag_is = put_flag c used v low high space;
        low_is = put_low c used v low high space;
        high_is = put_high c used v low high space;
        clear = λ i h. put_else c used v low high space i (inr h) ∙ clear i (omega arith);
      }

  pub added_longer : Added c used v low high (longer c used v low high)
  unfolding longer flag_at low_at high_at
  added_longer =
      let at = behind_own c used v low high within in
      record {
        fits = omega (arith, behind_length c used v low high within);
        agree = behind_old c used v low high within;
        flag_is = ap (λ (a : ℕ). get_or (longer c used v low high) a 0) (sym (add-zero (used * width))) ∙ at 0;
        low_is = at 1;
        high_is = at 2;
        clear = λ i k. get_or-eq_default (longer c used v low high) 0 (omega (arith, behind_length c used v low high within));
      }
