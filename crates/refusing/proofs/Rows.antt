-- Rows tested one part after the other, and what is known where none applies.
-- Assumes nothing.
use mathlib.Core.Path.{◌≡◌, refl, sym, ◌∙◌}
use mathlib.Core.Bool.{Bool, true, false}
use mathlib.Core.List.{List, [], ◌∷◌, ◌++◌}
use Prim.Native.Nat.{ℕ, ◌+◌, ◌≤◌}
use native.Mathlib.Omega.{arith}
use lib.Dec.{ltb}
use Rattle.rule.specs.Results.{Making}
use Rattle.rule.specs.Refusals.{Row, first_else, refusal, node, own_rows}
use Rattle.theory.proofs.Refused.{numbered, refused-more, passed_more, split_passed, rows_alike}
use Rattle.checking.proofs.Refused.{cell_rows, Taken, rows_passed}
use Rattle.checking.proofs.Parts.{fit_room, sound_room}
use Rattle.record_index.specs.Index.{Indexed}
use Rattle.refusing.specs.Tested.{node_rows, tested_rows, Tested}

-- ---- a number that some rows give, with more rows behind them

module _ {k : ℕ} (rows more : List Row) (e : k ≡ refusal rows) where
  pub still_refused : (k ≡ 0 → ⊥) → k ≡ refusal (rows ++ more)
  still_refused d = e ∙ refused-more rows more (λ f. d (e ∙ f))

  pub passed_on : numbered rows ≡ true → k ≡ 0 → {j : ℕ} → j ≡ refusal more → j ≡ refusal (rows ++ more)
  passed_on h z f = f ∙ passed_more rows more h (sym e ∙ z)

-- the same of tests that hand on the index
module _ {rows : List Row} (more : List Row) {c : List ℕ} {used k : ℕ} {index : List ℕ} (t : Tested rows c used k index) where
  pub then_refused : (k ≡ 0 → ⊥) → Tested (rows ++ more) c used k index
  then_refused d = record { number = still_refused rows more t.number d; indexed = t.indexed }

-- ---- a node that is named again

again : (b : Bool) (k : ℕ) → first_else b 7 (first_else b 7 k) ≡ first_else b 7 k
again true k = refl
again false k = refl

module _ (n : ℕ) (o c : List ℕ) (used : ℕ) {k : ℕ} {index : List ℕ} where
  -- the rows of the cells, of no node yet
  pub cells_tested : (k ≡ refusal (cell_rows n o c used)) × (k ≡ 0 → Indexed c used index) → Tested (node_rows n o c used []) c used k index
  cells_tested e = record { number = e.0; indexed = e.1 }

  pub two_nodes : (f g : ℕ) → Tested (node_rows n o c used (f ∷ g ∷ g ∷ [])) c used k index → Tested (node_rows n o c used (f ∷ g ∷ [])) c used k index
  two_nodes f g t =
      record {
        number = t.number
            ∙ rows_alike (cell_rows n o c used ++ (node used f ∷ [])) (node used g ∷ node used g ∷ []) (node used g ∷ []) (again (ltb (used + 1) g) 0);
        indexed = t.indexed;
      }

  pub one_node : (m : ℕ) → Tested (node_rows n o c used (m ∷ m ∷ m ∷ [])) c used k index → Tested (node_rows n o c used (m ∷ [])) c used k index
  one_node m t =
      let b = ltb (used + 1) m in
      record {
        number = t.number
            ∙ rows_alike (cell_rows n o c used) (node used m ∷ node used m ∷ node used m ∷ []) (node used m ∷ []) (again b (first_else b 7 0) ∙ again b 0);
        indexed = t.indexed;
      }

-- ---- where no row applies

module _ (n : ℕ) (o c : List ℕ) (used : ℕ) where
  -- no more records than cells can hold
  pub few_used : Taken n o c used → used ≤ 1024
  few_used t = omega (arith, fit_room c t.lent, sound_room n o c used t.is_sound)

  module _ (x : Making) {k : ℕ} {index : List ℕ} (t : Tested (tested_rows n o c used x) c used k index) (z : k ≡ 0) where
    pub taken : Taken n o c used
    taken = rows_passed n o c used (sym (split_passed (cell_rows n o c used) (own_rows n used x) refl (sym t.number ∙ z)).0)

    pub own_pass : refusal (own_rows n used x) ≡ 0
    own_pass = (split_passed (cell_rows n o c used) (own_rows n used x) refl (sym t.number ∙ z)).1
