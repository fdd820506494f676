-- The answers of walk and tabulate, from the tests that led to them.
-- Assumes nothing.
use mathlib.Core.Path.{◌≡◌, refl, sym, ap, ◌∙◌}
use mathlib.Core.List.{List, [], ◌∷◌, ◌++◌, map}
use mathlib.Core.Option.{Option, none, some}
use Prim.Native.Nat.{ℕ, zero, suc, ◌+◌, ◌^◌, ◌≤◌, ◌<◌}
use native.Mathlib.Omega.{arith}
use borrow.Author.Tests.{lt-ltb, le-ltb, eq-eqb, ne_eqb}
use lib.ListN.{length, take}
use lib.Pow.{pow_pos}
use Rattle.rule.specs.Table.{fit_length}
use Rattle.rule.specs.Order.{flags}
use Rattle.rule.specs.Walk.{walk, flags_asked, walk_values, table_of}
use Rattle.rule.specs.Pass.{pass_nodes}
use Rattle.rule.specs.Refusals.{Row, refusal, node, row_rows, walk_rows, tabulate_rows}
use Rattle.rule.specs.Reply.{accepted, refused, reply, leaves}
use Rattle.theory.proofs.Refused.{refused-more, passed_more, refused-reply}
use Rattle.theory.proofs.Pass.{pass_yes}
use Rattle.theory.proofs.Sound.{sound_shape}
use Rattle.theory.proofs.Orders.{fit_order_is}
use Rattle.theory.proofs.Walks.{smaller, walk_lt}
use Rattle.theory.proofs.Asked.{asked_most}
use Rattle.checking.proofs.Refused.{cell_rows, Taken, rows_passed}
use Rattle.checking.proofs.Parts.{fit_room, sound_room}
use Rattle.tabulating.specs.Fill.{Filling, filled}
use Rattle.tabulating.proofs.Halves.{filled_all}
use Rattle.walking.specs.Walk.{Walkable}
use Rattle.walking.specs.Pass.{pass_node}
use Rattle.rule.specs.Calls.{Walks, Tabulates}

-- ---- cells that were taken

module _ (n : ℕ) (o c : List ℕ) (used : ℕ) (passed : 0 ≡ refusal (cell_rows n o c used)) where
  t : Taken n o c used
  t = rows_passed n o c used passed

  pub few : n ≤ 10
  few = t.few

  pub few_used : used + 1 < 2 ^ 16
  few_used = omega (arith, fit_room c t.lent, sound_room n o c used t.is_sound)

  pub walkable : {m : ℕ} → m ≤ used + 1 → Walkable c used m
  walkable h =
      let s = sound_shape n o c used t.is_sound in
      record { fits = s.fits; flags = λ k l. omega (arith, s.flag k l, t.few); smaller = smaller s; node = h }

  -- a walk's answer is an end node, and it asks at most n flags
  pub says_lt : {x : ℕ} (m row : ℕ) → x ≡ walk c m row → m ≤ used + 1 → x < 2
  says_lt m row e h = omega (arith, e, walk_lt (walkable h).smaller m row h)

  pub asks_le : {x : ℕ} (m row : ℕ) → x ≡ length (flags_asked c m row) → m ≤ used + 1 → x ≤ 10
  asks_le m row e h = omega (arith, e, t.few, asked_most (sound_shape n o c used t.is_sound) (fit_order_is n o t.ordered) m h row)

-- ---- walk

module _ (n : ℕ) (o c : List ℕ) (used m row : ℕ) where
  -- the rows behind those of the cells
  abbrev behind_cells : Option ℕ → List Row
  behind_cells pass = node used m ∷ (map (node used) (pass_nodes pass) ++ row_rows n c pass row)

  -- refused under a number
  refused_by : (pass : Option ℕ) {k : ℕ} → k ≡ refusal (walk_rows n o c used m pass row) → (k ≡ 0 → ⊥) → Walks n o c used m pass row (refused k (0 ∷ 0 ∷ 0 ∷ []))
  refused_by pass {k} e d =
      record { answer = refused-reply k (walk_values c m row) d ∙ ap (λ i. reply i (walk_values c m row)) e; bytes_are = refl }

  -- the pass rule's rows are those of the node that is asked
  by_node : (pass : Option ℕ) → refusal (walk_rows n o c used m (some (pass_node pass)) row) ≡ refusal (walk_rows n o c used m pass row)
  by_node none = pass_yes n used m row o c
  by_node (some p) = refl

  module _ (passed : 0 ≡ refusal (cell_rows n o c used)) (pass : Option ℕ) {p : ℕ} (e : p ≡ pass_node pass) where
    own : refusal (behind_cells (some p)) ≡ refusal (walk_rows n o c used m pass row)
    own =
        passed_more (cell_rows n o c used) (behind_cells (some p)) refl (sym passed)
        ∙ ap (λ (i : ℕ). refusal (walk_rows n o c used m (some i) row)) e
        ∙ by_node pass

    pub row_refused : m ≤ used + 1 → p ≤ used + 1 → {k : ℕ} → k ≡ refusal (row_rows n c (some p) row) → (k ≡ 0 → ⊥)
        → Walks n o c used m pass row (refused k (0 ∷ 0 ∷ 0 ∷ []))
    row_refused h g f d =
        let z : refusal (row_rows n c (some p) row) ≡ refusal (behind_cells (some p)) = rw (le-ltb (used + 1) m h, le-ltb (used + 1) p g) in
        refused_by pass (f ∙ z ∙ own) d

-- ---- tabulate

module _ (n : ℕ) (o c : List ℕ) (used m : ℕ) (bytes : List ℕ) where
  -- refused under a number: nothing lent is altered
  under : (k : ℕ) → (k ≡ 0 → ⊥) → k ≡ refusal (tabulate_rows n o c used m bytes) → Tabulates n o c used m bytes (refused k []) bytes
  under zero d e = absurd (d refl)
  under (suc k) d e = record { answer = ap (λ i. reply i []) e; bytes_are = ap (λ i. leaves i (table_of n c m) bytes) e }

  pub tabulate_long : n ≤ 10 → (length bytes ≡ 2 ^ n → ⊥) → Tabulates n o c used m bytes (refused 2 []) bytes
  unfolding fit_length
  tabulate_long h d = under 2 (omega arith) (rw (le-ltb 10 n h, ne_eqb (length bytes) (2 ^ n) d))

  module _ (h : n ≤ 10) (l : length bytes ≡ 2 ^ n) where
    -- the rows after the flag count and the length are those of the cells, and the node's
    rest : refusal (cell_rows n o c used ++ (node used m ∷ [])) ≡ refusal (tabulate_rows n o c used m bytes)
    unfolding fit_length
    rest = rw (le-ltb 10 n h, eq-eqb (length bytes) (2 ^ n) l)

    pub tabulate_refused : {k : ℕ} → k ≡ refusal (cell_rows n o c used) → (k ≡ 0 → ⊥) → Tabulates n o c used m bytes (refused k []) bytes
    tabulate_refused {k} e d = under k d (e ∙ refused-more (cell_rows n o c used) (node used m ∷ []) (λ f. d (e ∙ f)) ∙ rest)

    module _ (passed : 0 ≡ refusal (cell_rows n o c used)) where
      own_row : refusal (node used m ∷ []) ≡ refusal (tabulate_rows n o c used m bytes)
      own_row = passed_more (cell_rows n o c used) (node used m ∷ []) refl (sym passed) ∙ rest

      pub tabulate_far : used + 1 < m → Tabulates n o c used m bytes (refused 7 []) bytes
      tabulate_far g =
          let z : 7 ≡ refusal (node used m ∷ []) = rw (lt-ltb (used + 1) m g) in under 7 (omega arith) (z ∙ own_row)

      pub tabulate_start : m ≤ used + 1 → Filling n o 0 0 c used m bytes
      tabulate_start g =
          record {
            few = h;
            order_fits = (rows_passed n o c used passed).ordered;
            is_sound = sound_shape n o c used (rows_passed n o c used passed).is_sound;
            row_fits = pow_pos n;
            node = g;
            later = omega arith;
            rows = l;
          }

      pub tabulate_done : m ≤ used + 1 → {after : List ℕ} → after ≡ filled n (take 0 (flags n o)) 0 c m bytes
          → Tabulates n o c used m bytes (accepted []) after
      tabulate_done g e =
          let z : refusal (tabulate_rows n o c used m bytes) ≡ 0 = sym own_row ∙ rw (le-ltb (used + 1) m g) in
          record { answer = rw z; bytes_are = rw z (e ∙ filled_all n 0 c m bytes) }
