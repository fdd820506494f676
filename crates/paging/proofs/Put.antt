-- Lines written one behind the other: those of records, and a page.
-- Assumes nothing.
use mathlib.Core.Path.{◌≡◌, sym, ap, ◌∙◌}
use mathlib.Core.List.{List, [], ◌∷◌, ◌++◌, map, flat_map, append_assoc, map-append}
use Prim.Native.Nat.{ℕ, ◌+◌, ◌*◌, ◌≤◌}
use native.Mathlib.Omega.{arith}
use lib.ListN.{length}
use Rattle.rule.specs.Bits.{from}
use Rattle.rule.specs.Text.{right, line_end}
use Rattle.rule.specs.Cells.{RecordValues}
use Rattle.rule.specs.Sheet.{record_lines, node_places, flag_places, column, record_line, first_line, last_line, page_of, ended}
use Rattle.theory.proofs.Bits.{from_next}
use Rattle.theory.proofs.Flat.{flat_behind}
use Rattle.runs.specs.Run.{Puts}
use Rattle.runs.proofs.Puts.{puts_then}

-- the four numbers of a record's line, and its end
pub puts_record : (m : ℕ) (r : RecordValues) {b d e f g h : List ℕ} {at i j k l z : ℕ} → z ≤ length b → Puts b at (right node_places m) i d
    → Puts d i (column flag_places r.flag) j e → Puts e j (column node_places r.low) k f → Puts f k (column node_places r.high) l g
    → Puts g l line_end z h → Puts b at (ended (record_line m r)) z h
unfolding record_line
puts_record m r {j = j} {k} {l} {z} fits p q s t u =
    let high : l ≤ z = omega (arith, u.next_is) in
    let low : k ≤ l = omega (arith, t.next_is) in
    let flag : j ≤ k = omega (arith, s.next_is) in
    puts_then fits (puts_then (omega arith) (puts_then (omega arith) (puts_then (omega arith) p q) s) t) u

-- one line more
pub puts_line : (f : ℕ → List ℕ) (a i : ℕ) {b d e : List ℕ} {at m r : ℕ} → r ≤ length b → Puts b at (flat_map ended (map f (from a i))) m d
    → Puts d m (ended (f (a + i))) r e → Puts b at (flat_map ended (map f (from a (i + 1)))) r e
puts_line f a i h p q =
    let e : flat_map ended (map f (from a (i + 1))) ≡ flat_map ended (map f (from a i)) ++ ended (f (a + i)) =
    ap (λ (l : List ℕ). flat_map ended (map f l)) (from_next a i)
    ∙ ap (flat_map ended) (map-append f (from a i) ((a + i) ∷ []))
    ∙ flat_behind ended (map f (from a i)) (f (a + i)) in
    rw e (puts_then h p q)

-- the first line, those of records and the last one
pub puts_page : (line : ℕ → List ℕ) (before : ℕ) {b d e f : List ℕ} {at m i r : ℕ} → r ≤ length b → i ≤ r → Puts b at (ended first_line) m d
    → Puts d m (flat_map ended (map line (from (before * record_lines) record_lines))) i e → Puts e i (ended (last_line (before + 1))) r f
    → Puts b at (flat_map ended (page_of line before)) r f
unfolding flat_map
puts_page line before h l p q s =
    let last = last_line (before + 1) in
    let records = map line (from (before * record_lines) record_lines) in
    let e : flat_map ended (page_of line before) ≡ ended first_line ++ flat_map ended records ++ ended last =
    ap (λ (x : List ℕ). ended first_line ++ x) (flat_behind ended records last)
    ∙ sym (append_assoc (ended first_line) (flat_map ended records) (ended last)) in
    rw e (puts_then h (puts_then (omega arith) p q) s)
