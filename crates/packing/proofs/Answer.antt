-- Pack's answer, from the tests, the search and build's own answer.
-- Assumes nothing.
use mathlib.Core.Path.{◌≡◌, refl, sym, ap, ap₂, ◌∙◌}
use mathlib.Core.Bool.{Bool, true, false, not, ◌&&◌}
use mathlib.Core.List.{List, [], ◌∷◌, ◌++◌}
use Prim.Native.Nat.{ℕ, ◌^◌, ◌≤◌, ◌<◌}
use native.Mathlib.Omega.{arith}
use borrow.Author.Tests.{ltb-true, ltb-false, eqb-true, not-false, le-ltb, eq-eqb, ne_eqb}
use lib.Dec.{ltb}
use lib.ListN.{length, replicate}
use Rattle.rule.specs.Table.{fit_length, fit_rows}
use Rattle.rule.specs.Level.{size}
use Rattle.rule.specs.Order.{flags, in_places, packed, fit_order}
use Rattle.rule.specs.Cells.{fit_cells, room}
use Rattle.rule.specs.Refusals.{Row, refusal, first_else, table_length, table_read, cells, workspace, result, build_rows, pack_rows}
use Rattle.rule.specs.Reply.{accepted, refused, reply, leaves}
use Rattle.rule.specs.Results.{root_by}
use Rattle.rule.specs.Sequence.{drawing}
use Rattle.rule.specs.Calls.{Build, Pack, workspace_after}
use Rattle.theory.proofs.Orders.{zero-places, packed_flags, packed_fit}
use Rattle.theory.proofs.Tests.{and_split}
use Rattle.theory.proofs.Refused.{row_passed, refused-more, passed_more, refused-reply, refused_kept, refused_is, accepted_is}
use Rattle.packing.specs.Lent.{lent_rows}

-- a table, cells and a workspace that passed
pub record Lent (n : ℕ) (t c w : List ℕ) : Type 0 where
  pub few : n ≤ 10
  pub rows : length t ≡ 2 ^ n
  pub bits : fit_rows t ≡ true
  pub cells_fit : fit_cells c ≡ true
  pub lent : 3 ^ n ≤ length w

pub lent_fit : (n : ℕ) (t c w : List ℕ) → 0 ≡ refusal (lent_rows n t c w) → Lent n t c w
unfolding fit_length
lent_fit n t c w e =
    let (p, q) = row_passed (ltb 10 n) 0 (table_length n t ∷ table_read t ∷ cells c ∷ workspace n w ∷ []) (sym e) in
    let (l, r) = row_passed (not (fit_length n t)) 1 (table_read t ∷ cells c ∷ workspace n w ∷ []) q in
    let (b, x) = row_passed (not (fit_rows t)) 2 (cells c ∷ workspace n w ∷ []) r in
    let (a, y) = row_passed (not (fit_cells c)) 4 (workspace n w ∷ []) x in
    let (g, _) = row_passed (ltb (length w) (3 ^ n)) 7 [] y in
    record { few = ltb-false 10 n p; rows = eqb-true _ _ (not-false _ l); bits = not-false _ b; cells_fit = not-false _ a; lent = ltb-false (length w) (3 ^ n) g }

-- ---- refused before the search: the number is none of the last row

abbrev small : List Row → Bool
small [] = true
small (row ∷ rows) = ltb row.1 10 && small rows

refusal-small : (rows : List Row) → small rows ≡ true → refusal rows < 10
refusal-small [] e = omega arith
refusal-small ((true, k) ∷ rows) e = ltb-true k 10 (and_split (ltb k 10) (small rows) e).0
refusal-small ((false, k) ∷ rows) e = refusal-small rows (and_split (ltb k 10) (small rows) e).1

workspace_kept : (k : ℕ) (w : List ℕ) → (k ≡ 0 → ⊥) → k < 10 → w ≡ workspace_after k w
workspace_kept k w d h = rw (ne_eqb k 0 d, ne_eqb k 10 (λ q. omega arith))

-- ---- the answer

module _ (n : ℕ) (t c w : List ℕ) where
  abbrev values : List ℕ
  values = size (packed n t) t ∷ root_by (size (packed n t) t) t ∷ in_places (packed n t)

  -- "A refusal hands back its number and zeros"
  under : (k : ℕ) (d x : List ℕ) → (k ≡ 0 → ⊥) → k ≡ refusal (pack_rows n t c w) → d ≡ leaves k (drawing n (in_places (packed n t)) t c) c → x ≡ workspace_after k w
      → Pack n t c w (refused k (0 ∷ 0 ∷ replicate 10 0)) d x
  under k d x h e q s =
      record {
        answer = ap (λ (z : List ℕ). refused k (0 ∷ 0 ∷ z)) (sym (zero-places (packed n t))) ∙ refused-reply k values h ∙ ap (λ (i : ℕ). reply i values) e;
        cells = q ∙ ap (λ (i : ℕ). leaves i (drawing n (in_places (packed n t)) t c) c) e;
        workspace = s ∙ ap (λ (i : ℕ). workspace_after i w) e;
      }

  -- refused before the search
  pub refused_early : {k : ℕ} → k ≡ refusal (lent_rows n t c w) → (k ≡ 0 → ⊥) → Pack n t c w (refused k (0 ∷ 0 ∷ replicate 10 0)) c w
  refused_early {k} e d =
      under k c w d (e ∙ refused-more (lent_rows n t c w) (result (size (packed n t) t) (room c) ∷ []) (λ q. d (e ∙ q)))
      (refused_kept k (drawing n (in_places (packed n t)) t c) c d)
      (workspace_kept k w d (omega (arith, refusal-small (lent_rows n t c w) refl)))

  -- the search has found its order
  module _ (e : 0 ≡ refusal (lent_rows n t c w)) {o : List ℕ} (found : o ≡ in_places (packed n t)) where
    -- pack refuses what build refuses, where there is too little room for the packed order's diagram
    few_room : refusal (pack_rows n t c w) ≡ first_else (ltb (room c) (size (packed n t) t)) 10 0
    few_room = sym (passed_more (lent_rows n t c w) (result (size (packed n t) t) (room c) ∷ []) refl (sym e))

    same_flags : flags n o ≡ packed n t
    same_flags = ap (flags n) found ∙ packed_flags n t (lent_fit n t c w e).few

    build_room : refusal (build_rows n t o c) ≡ first_else (ltb (room c) (size (packed n t) t)) 10 0
    unfolding fit_length
    build_room =
        let g = lent_fit n t c w e in
        let a : fit_order n o ≡ true = ap (fit_order n) found ∙ packed_fit n t g.few in
        rw (le-ltb 10 n g.few, eq-eqb (length t) (2 ^ n) g.rows, g.bits, a, g.cells_fit, same_flags)

    same_refusal : refusal (build_rows n t o c) ≡ refusal (pack_rows n t c w)
    same_refusal = build_room ∙ sym few_room

    -- the workspace, cleared whole
    whole : (b : Bool) → replicate (length w) 0 ≡ workspace_after (first_else b 10 0) w
    whole true = refl
    whole false = refl

    cleared : {k : ℕ} → k ≡ length w → replicate k 0 ≡ workspace_after (refusal (pack_rows n t c w)) w
    cleared l =
        ap (λ (j : ℕ). replicate {A = ℕ} j 0) l ∙ whole (ltb (room c) (size (packed n t) t)) ∙ ap (λ (i : ℕ). workspace_after i w) (sym few_room)

    pub refused_late : {i : ℕ} {d x : List ℕ} {m : ℕ} → m ≡ length w → x ≡ replicate m 0 → Build n t o c (refused i (0 ∷ 0 ∷ [])) d
        → Pack n t c w (refused i (0 ∷ 0 ∷ replicate 10 0)) d x
    refused_late {i} {d} {x} l k b =
        let (q, h) = refused_is i _ (0 ∷ 0 ∷ []) (size (flags n o) t ∷ root_by (size (flags n o) t) t ∷ []) b.answer in
        under i d x (λ j. h (sym q ∙ j)) (q ∙ same_refusal)
        (b.cells ∙ ap₂ (λ (j : ℕ) (p : List ℕ). leaves j (drawing n p t c) c) (sym q) found)
        (k ∙ cleared l ∙ ap (λ (j : ℕ). workspace_after j w) (sym (q ∙ same_refusal)))

    pub packed_drawn : {nodes root : ℕ} {d x : List ℕ} {m : ℕ} → m ≡ length w → x ≡ replicate m 0 → Build n t o c (accepted (nodes ∷ root ∷ [])) d
        → Pack n t c w (accepted (nodes ∷ root ∷ o)) d x
    packed_drawn {nodes = nodes} {root = root} l k b =
        let (q, v) = accepted_is _ (nodes ∷ root ∷ []) (size (flags n o) t ∷ root_by (size (flags n o) t) t ∷ []) b.answer in
        let none : refusal (pack_rows n t c w) ≡ 0 = sym same_refusal ∙ q in
        let two : nodes ∷ root ∷ [] ≡ size (packed n t) t ∷ root_by (size (packed n t) t) t ∷ [] = rw same_flags at v in
        record {
          answer = ap₂ (λ (xs p : List ℕ). accepted (xs ++ p)) two found ∙ ap (λ (i : ℕ). reply i values) (sym none);
          cells = b.cells ∙ ap₂ (λ (j : ℕ) (p : List ℕ). leaves j (drawing n p t c) c) same_refusal found;
          workspace = k ∙ cleared l;
        }
