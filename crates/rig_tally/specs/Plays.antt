-- A log played through a table, "drawn in the rising order" (document 02, request 9).
-- Assumes nothing.
use Rattle.std.specs.Prelude.{◌≡◌, true, List, ℕ}
use Rattle.std.proofs.Math.Option.{none}
use Rattle.rule.specs.Order.{rising}
use Rattle.rule.specs.Cells.{fit_cells}
use Rattle.rule.specs.Reduced.{DrawnAs}
use Rattle.rule.specs.Reply.{Reply}
use Rattle.rule.specs.Calls.{Replays}

-- the reply to the log, in cells that draw the table; "the program gives none", no pass rule
pub record Plays (n : ℕ) (t log : List ℕ) (r : Reply) : Type 0 where
  pub cells : List ℕ
  pub used : ℕ
  pub root : ℕ
  pub lent : fit_cells cells ≡ true
  pub drawn : DrawnAs n (rising n) t cells used root
  pub replays : Replays n (rising n) cells used root none log r
