-- What cells are that passed their tests.
-- Assumes nothing.
use mathlib.Core.Path.{◌≡◌}
use mathlib.Core.Bool.{true}
use mathlib.Core.List.{List}
use Prim.Native.Nat.{ℕ, ◌≤◌}
use native.Mathlib.Omega.{arith}
use Rattle.rule.specs.Cells.{most_records, fit_cells, room}
use Rattle.rule.specs.Sound.{flags_below, children_differ, children_smaller, laid, sound, shaped}
use Rattle.cells.proofs.Fit.{fit_length_lem}
use Rattle.theory.proofs.Tests.{and_split}
use Rattle.theory.proofs.Sound.{sound_shape}

-- they hold at most 1,024 records
pub fit_room : (c : List ℕ) → fit_cells c ≡ true → room c ≤ most_records
fit_room c e = omega (arith, fit_length_lem c e)

module _ (n : ℕ) (order c : List ℕ) (used : ℕ) where
  pub sound_room : sound n order c used ≡ true → used ≤ room c
  sound_room e = (sound_shape n order c used e).fits

  pub sound_smaller : sound n order c used ≡ true → children_smaller c used ≡ true
  unfolding sound shaped
  sound_smaller e =
      let e₁ = (and_split (laid c used) _ e).1 in
      let e₂ = (and_split (flags_below n c used) _ e₁).1 in
      let e₃ = (and_split (children_differ c used) _ e₂).1 in
      (and_split (children_smaller c used) _ e₃).0
