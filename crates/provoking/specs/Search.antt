-- What a search for a row is given, and what it finds.
-- Assumes nothing.
use Rattle.std.specs.Prelude.{◌≡◌, true, ◌⊎◌, List, ℕ, ◌+◌, ◌^◌, ◌≤◌, ◌<◌}
use Rattle.rule.specs.Bits.{bit}
use Rattle.rule.specs.Order.{fit_order}
use Rattle.rule.specs.Walk.{table_of}
use Rattle.rule.specs.Provoke.{Serves}
use Rattle.theory.specs.Level.{level_of}
use Rattle.theory.specs.Shape.{Shaped}

-- stands for no row: above every row of ten flags
abbrev pub no_row : ℕ
no_row = 1024

-- a fit order and sound cells, a level, two nodes that ask no flag before it, and a row that has no 1 outside the fixed flags
pub record Seeking (n : ℕ) (order : List ℕ) (at : ℕ) (c : List ℕ) (used rule pass fixed row : ℕ) : Type 0 where
  pub few : n ≤ 10
  pub order_fits : fit_order n order ≡ true
  pub is_sound : Shaped n order c used
  pub rule_node : rule ≤ used + 1
  pub pass_node_lem : pass ≤ used + 1
  pub rule_later : at ≤ level_of n order c rule
  pub pass_later : at ≤ level_of n order c pass
  pub fixed_fits : fixed < 2 ^ n
  pub row_fits : row < 2 ^ n
  pub ones_fixed_lem : (i : ℕ) → bit row i ≡ 1 → bit fixed i ≡ 1

-- row q serves, by the tables of two nodes, where the fixed flags are to have their values in `row`
abbrev pub ServesIn : ℕ → List ℕ → ℕ → ℕ → ℕ → ℕ → ℕ → ℕ → Type 0
ServesIn n c wanted rule pass fixed row q = Serves (table_of n c rule) wanted (table_of n c pass) fixed row q

-- the lowest row that serves, or none
pub record Lowest (n : ℕ) (c : List ℕ) (wanted rule pass fixed row found : ℕ) : Type 0 where
  pub least : (q : ℕ) → ServesIn n c wanted rule pass fixed row q → found ≤ q
  pub found_is : (found ≡ no_row) ⊎ ServesIn n c wanted rule pass fixed row found
