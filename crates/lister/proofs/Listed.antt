-- What is printed, from the refusal of the line and the answer of pack.
-- Assumes nothing.
use mathlib.Core.Path.{◌≡◌, refl, sym, ap, ◌∙◌}
use mathlib.Core.Bool.{true, false}
use mathlib.Core.List.{List, [], ◌∷◌}
use Prim.Native.Nat.{ℕ, zero, suc, ◌+◌, ◌^◌, ◌≤◌, ◌<◌}
use native.Mathlib.Decide.{ℕ_discrete}
use native.Mathlib.Omega.{arith}
use borrow.Author.Tests.{ltb-false, le-ltb, eq-eqb, not-false}
use lib.Dec.{ltb}
use lib.ListN.{length, length-append, length-take, length-replicate}
use lib.Pow.{pow_mono}
use Rattle.rule.specs.Tests.{each}
use Rattle.rule.specs.Table.{fit_length, fit_rows}
use Rattle.rule.specs.Level.{size}
use Rattle.rule.specs.Order.{flags, in_places, packed}
use Rattle.rule.specs.Cells.{most_cells, fit_cells, room}
use Rattle.rule.specs.Diagram.{asking}
use Rattle.rule.specs.Refusals.{refusal, pack_rows}
use Rattle.rule.specs.Reply.{accepted, refused}
use Rattle.rule.specs.Results.{root_by}
use Rattle.rule.specs.Sequence.{drawing}
use Rattle.rule.specs.Calls.{Pack}
use Rattle.rule.specs.Demands.{Fit}
use Rattle.rule.specs.Listing.{most_rows, is_digit, flags_of, line_rows, workspace_cells, short_workspace, listing_rows, word_line, asking_packed, listed, listed_or}
use Rattle.theory.proofs.Refused.{row_passed, passed, refused-more, refused_is, accepted_is}
use Rattle.theory.proofs.Drawing.{drawing-length}
use Rattle.theory.proofs.Orders.{packed_fit, packed_flags}
use Rattle.demands.proofs.Exists.{size_few}
use Rattle.demands.proofs.Counts.{asks}
use Rattle.demands.proofs.Stands.{packs}
use Rattle.report.specs.Report.{reported}
use Rattle.report.proofs.Printed.{lines_same}

-- a refusal's line
refused-listed : (k n : ℕ) (t : List ℕ) → (k ≡ 0 → ⊥) → word_line "refused" k ≡ listed_or k n t
refused-listed zero n t d = absurd (d refl)
refused-listed (suc k) n t d = refl

-- ---- the line

module _ (line : List ℕ) where
  pub line_refused : {k : ℕ} → k ≡ refusal (line_rows line) → (n : ℕ) (t : List ℕ) → (k ≡ 0 → ⊥)
      → word_line "refused" k ≡ listed_or (refusal (listing_rows line)) n t
  line_refused {k} e n t d =
      refused-listed k n t d
      ∙ ap (λ (i : ℕ). listed_or i n t) (e ∙ refused-more (line_rows line) (short_workspace (flags_of line) ∷ []) (λ q. d (e ∙ q)))

  pub line_fits : 0 ≡ refusal (line_rows line) → (length line ≤ most_rows) × (flags_of line ≤ 10) × (each is_digit line ≡ true)
  line_fits e =
      let (a, (b, (c, _))) = passed (line_rows line) refl (sym e) in
      (ltb-false most_rows (length line) a, ltb-false 10 (flags_of line) b, not-false _ c)

-- ---- the table

pub rows_few : (n : ℕ) (t : List ℕ) → n ≤ 10 → length t ≡ 2 ^ n → length t < 65536
rows_few n t few e = let m : 2 ^ n ≤ 2 ^ 10 = pow_mono few in omega arith

module _ (n : ℕ) (t c w : List ℕ) (few : n ≤ 10) (rows : length t ≡ 2 ^ n) (bits : fit_rows t ≡ true) (cs : length c ≡ most_cells) (ws : length w ≡ workspace_cells) where
  fit : Fit n (in_places (packed n t)) t
  unfolding fit_length
  fit =
      record {
        few = few;
        kept_in = simp (length-take, length-append, length-replicate) (omega arith);
        order_fits = packed_fit n t few;
        rows = eq-eqb (length t) (2 ^ n) rows;
        bits = bits;
      }

  size_room : size (packed n t) t < 1024
  size_room = rw (packed_flags n t few) at (size_few n (in_places (packed n t)) t fit)

  -- pack refuses more than eight flags, and nothing else
  pack_refusal : refusal (pack_rows n t c w) ≡ refusal (short_workspace n ∷ [])
  unfolding fit_length fit_cells
  pack_refusal =
      let r : ltb (room c) (size (packed n t) t) ≡ false = le-ltb (room c) (size (packed n t) t) (omega (arith, size_room)) in
      rw (le-ltb 10 n few, eq-eqb (length t) (2 ^ n) rows, bits, r, cs, ws)

  pub pack_refused : {k : ℕ} {zs d x : List ℕ} → Pack n t c w (refused k zs) d x → word_line "refused" k ≡ listed_or (refusal (short_workspace n ∷ [])) n t
  pack_refused {k} {zs} p =
      let (e, h) = refused_is k (refusal (pack_rows n t c w)) zs _ p.answer in
      refused-listed k n t (λ z. h (sym e ∙ z)) ∙ ap (λ (i : ℕ). listed_or i n t) (e ∙ pack_refusal)

  module _ {nodes root : ℕ} {o d x : List ℕ} (p : Pack n t c w (accepted (nodes ∷ root ∷ o)) d x) where
    values : (refusal (pack_rows n t c w) ≡ 0) × (nodes ∷ root ∷ o ≡ size (packed n t) t ∷ root_by (size (packed n t) t) t ∷ in_places (packed n t))
    values = accepted_is _ _ _ p.answer

    none : refusal (short_workspace n ∷ []) ≡ 0
    none = sym pack_refusal ∙ values.0

    nodes_are : nodes ≡ size (packed n t) t
    nodes_are = let v = values.1 in cc

    order_is : o ≡ in_places (packed n t)
    order_is = let v = values.1 in cc

    pub packed_few : n ≤ 8
    packed_few =
        let h = ltb-false workspace_cells (3 ^ n) (row_passed (ltb workspace_cells (3 ^ n)) 7 [] none).0 in
        elim (ℕ_discrete n 9) [
          | yes e ↦ let m : 3 ^ 9 ≤ workspace_cells = rw e at h in absurd (omega arith)
          | no d ↦ elim (ℕ_discrete n 10) [ yes e ↦ let m : 3 ^ 10 ≤ workspace_cells = rw e at h in absurd (omega arith) | no f ↦ omega arith ]
        ]

    pub packed_room : nodes ≤ room d
    packed_room =
        let drawn : d ≡ drawing n (in_places (packed n t)) t c = rw values.0 at p.cells in
        omega (arith, nodes_are, size_room, ap length drawn, drawing-length n (in_places (packed n t)) t c)

    flags_are : flags n o ≡ packed n t
    flags_are = ap (flags n) order_is ∙ packed_flags n t few

    asked : (v : ℕ) → v < 0 + n → asking d nodes v ≡ asking_packed n t v
    asked v h =
        let s = packs n nodes root t o c w d x _ p refl in
        rw flags_are at (asks n o t (rw order_is fit) d nodes root s.drawn v (omega arith))

    pub pack_listed : reported n t o d nodes ≡ listed_or (refusal (short_workspace n ∷ [])) n t
    unfolding reported listed
    pack_listed = rw (lines_same (asking d nodes) (asking_packed n t) 0 n asked, none, flags_are, nodes_are)
