-- What print tests, and the pages written one behind the other.
-- Assumes nothing.
use mathlib.Core.Path.{◌≡◌, refl, sym, ap, ◌∙◌}
use mathlib.Core.List.{List, [], ◌∷◌, ◌++◌, map, flat_map}
use Prim.Native.Nat.{ℕ, zero, suc, ◌+◌, ◌-◌, ◌*◌, ◌/◌, ◌≤◌}
use native.Mathlib.Omega.{arith}
use borrow.Author.Tests.{ltb-false}
use lib.ListN.{length, drop}
use Rattle.rule.specs.Bits.{below}
use Rattle.rule.specs.Refusals.{Row, refusal, result, check_rows}
use Rattle.rule.specs.Reply.{accepted, refused, reply, leaves, WritesRun}
use Rattle.rule.specs.Sheet.{record_lines, page_bytes, pages_for, ended, sheet, print_rows, Prints}
use Rattle.theory.proofs.Flat.{flat_append, flat_next}
use Rattle.theory.proofs.Refused.{passed, split_passed, refused-reply, refused_kept}
use Rattle.runs.specs.Run.{Puts}
use Rattle.runs.proofs.Puts.{puts_then, run_accepted}
use Rattle.checking.proofs.First.{check_passes}
use Rattle.paging.specs.Page.{Printable}
use Rattle.paging.proofs.Lines.{checked_printable, sheet_length}

-- ---- the number of pages

pub pages_some : (used : ℕ) → (used ≡ 0 → ⊥) → (used - 1) / record_lines + 1 ≡ pages_for used
pages_some zero d = absurd (d refl)
pages_some (suc k) d = omega arith

-- ---- a refused run

pub run_refused : {k j : ℕ} (run values bytes : List ℕ) → k ≡ j → (k ≡ 0 → ⊥) → WritesRun j run values bytes (refused k (map (λ v. 0) values)) bytes
run_refused {k} run values bytes e d =
    record {
      answer = refused-reply k values d ∙ ap (λ (i : ℕ). reply i values) e;
      bytes_are = refused_kept k (run ++ drop (length run) bytes) bytes d ∙ ap (λ (i : ℕ). leaves i (run ++ drop (length run) bytes) bytes) e;
    }

-- ---- a page more

pub puts_next : (page : ℕ → List (List ℕ)) (before : ℕ) {b d e : List ℕ} {m r : ℕ} → r ≤ length b
    → Puts b 0 (flat_map ended (flat_map page (below before))) m d → Puts d m (flat_map ended (page before)) r e
    → Puts b 0 (flat_map ended (flat_map page (below (before + 1)))) r e
puts_next page before h p q =
    let more : flat_map ended (flat_map page (below (before + 1))) ≡ flat_map ended (flat_map page (below before)) ++ flat_map ended (page before) =
    ap (flat_map ended) (flat_next page before) ∙ flat_append ended (flat_map page (below before)) (page before) in
    rw more (puts_then h p q)

-- ---- the rows

module _ (n : ℕ) (o c : List ℕ) (used root : ℕ) (bytes : List ℕ) where
  own : List Row
  own = result (length (sheet c used)) (length bytes) ∷ []

  pub own_passes : {k : ℕ} (w : List ℕ) → accepted w ≡ reply (refusal (check_rows n o c used root)) (used ∷ [])
      → k ≡ refusal (result (pages_for used * page_bytes) (length bytes) ∷ []) → k ≡ refusal (print_rows n o c used root bytes)
  unfolding own
  own_passes w e f =
      let (z, more) = check_passes n o c used root own w e in
      let long = sheet_length (checked_printable n o c used root z) in
      f ∙ ap (λ (k : ℕ). refusal (result k (length bytes) ∷ [])) (sym long) ∙ more

  -- where none applies
  module _ (e : 0 ≡ refusal (print_rows n o c used root bytes)) where
    pub printable : Printable c used × (pages_for used * page_bytes ≤ length bytes)
    unfolding own
    printable =
        let (first, last) = split_passed (check_rows n o c used root) own refl (sym e) in
        let p = checked_printable n o c used root first in
        (p, omega (arith, sheet_length p, ltb-false (length bytes) (length (sheet c used)) (passed own refl last).0))

    pub print_accepted : {pages m : ℕ} {after : List ℕ} → pages ≡ pages_for used → Puts bytes 0 (sheet c used) m after
        → Prints n o c used root bytes (accepted (pages ∷ [])) after
    print_accepted f p = rw f (run_accepted (pages_for used ∷ []) (sym e) p)
