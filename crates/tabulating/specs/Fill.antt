-- What filling rows is given and leaves.
-- Assumes nothing.
use Rattle.std.specs.Prelude.{◌≡◌, Bool, true, cond, List, ℕ, ◌+◌, ◌^◌, ◌≤◌, ◌<◌, eqb, length, get_or}
use Rattle.rule.specs.Bits.{bit}
use Rattle.rule.specs.Tests.{each}
use Rattle.rule.specs.Table.{tabled}
use Rattle.rule.specs.Order.{fit_order}
use Rattle.rule.specs.Walk.{walk}
use Rattle.theory.specs.Level.{level_of}
use Rattle.theory.specs.Shape.{Shaped}

-- a fit order and sound cells, a level, a row, a node that asks no flag before the level, and bytes for all rows
pub record Filling (n : ℕ) (order : List ℕ) (at row : ℕ) (c : List ℕ) (used m : ℕ) (bytes : List ℕ) : Type 0 where
  pub few : n ≤ 10
  pub order_fits : fit_order n order ≡ true
  pub is_sound : Shaped n order c used
  pub row_fits : row < 2 ^ n
  pub node : m ≤ used + 1
  pub later : at ≤ level_of n order c m
  pub rows : length bytes ≡ 2 ^ n

-- rows r and q give the flags vs the same values
unfoldable pub agree : List ℕ → ℕ → ℕ → Bool
agree vs r q = each (λ v. eqb (bit q v) (bit r v)) vs

-- the bytes with node m's answer in each row that gives the flags vs the values of row r; the others as they were
unfoldable pub filled : ℕ → List ℕ → ℕ → List ℕ → ℕ → List ℕ → List ℕ
filled n vs r c m bytes = tabled n (λ q. cond (agree vs r q) (walk c m q) (get_or bytes q 0))
