-- The lines of a listing, written one behind the other.
-- Assumes nothing.
use mathlib.Core.Path.{◌≡◌, refl}
use mathlib.Core.List.{List, ◌++◌, flat_map}
use Prim.Native.Nat.{ℕ, zero, suc, ◌+◌, ◌≤◌, ◌<◌}
use native.Mathlib.Numerals.{add-one}
use native.Mathlib.Omega.{arith}
use lib.ListN.{length, get_or, take}
use lib.Seq.{take-suc}
use Rattle.rule.specs.Bits.{from, below}
use Rattle.rule.specs.Text.{text, number, line_end}
use Rattle.rule.specs.Listing.{numbers, order_line, flag_line, flag_lines}
use Rattle.theory.proofs.Flat.{flat_behind, flat_next}
use Rattle.runs.specs.Run.{Puts}
use Rattle.runs.proofs.Puts.{puts_length, puts_then}

-- ---- the order

pub puts_place : (l : List ℕ) (i : ℕ) {b d e : List ℕ} {at m r : ℕ} → i < length l → r ≤ length b → Puts b at (numbers (take i l)) m d
    → Puts d m (number (get_or l i 0)) r e → Puts b at (numbers (take (i + 1) l)) r e
puts_place l i h f p q =
    let e : numbers (take (i + 1) l) ≡ numbers (take i l) ++ number (get_or l i 0) =
    rw (add-one, take-suc l i 0 h) (flat_behind number (take i l) (get_or l i 0)) in
    rw e (puts_then f p q)

-- the word, the places and the line end
pub puts_order : (l : List ℕ) {b d e f : List ℕ} {at m i r : ℕ} → r ≤ length b → Puts b at (text "order") m d → Puts d m (numbers l) i e → Puts e i line_end r f
    → Puts b at (order_line l) r f
unfolding text
puts_order l {b} {d} h p q z =
    let long : length d ≡ length b = puts_length p (omega (arith, p.next_is, q.next_is, z.next_is)) in
    puts_then h p (puts_then (omega arith) q z)

-- ---- the flags

module _ (asked : ℕ → ℕ) where
  pub puts_flag : (k : ℕ) {b d e : List ℕ} {at m r : ℕ} → r ≤ length b → Puts b at (flag_lines asked (below k)) m d → Puts d m (flag_line k (asked k)) r e
      → Puts b at (flag_lines asked (below (k + 1))) r e
  puts_flag k h p q = rw (flat_next (λ v. flag_line v (asked v)) k) (puts_then h p q)

-- the word, the flag, its nodes and the line end
pub puts_flag_line : (v k : ℕ) {b d e f g : List ℕ} {at m i j r : ℕ} → r ≤ length b → Puts b at (text "flag") m d → Puts d m (number v) i e
    → Puts e i (number k) j f → Puts f j line_end r g → Puts b at (flag_line v k) r g
unfolding text
puts_flag_line v k {b} {d} {e} h p q s z =
    let long-d : length d ≡ length b = puts_length p (omega (arith, p.next_is, q.next_is, s.next_is, z.next_is)) in
    let long-e : length e ≡ length d = puts_length q (omega (arith, q.next_is, s.next_is, z.next_is)) in
    puts_then h p (puts_then (omega arith) q (puts_then (omega arith) s z))

-- the same lines where the counts are the same
pub lines_same : (f g : ℕ → ℕ) (a k : ℕ) → ((v : ℕ) → v < a + k → f v ≡ g v) → flag_lines f (from a k) ≡ flag_lines g (from a k)
unfolding flat_map from
lines_same f g a zero h = refl
lines_same f g a (suc k) h =
    let e : f a ≡ g a = h a (omega arith) in
    rw (e, lines_same f g (suc a) k (λ v l. h v (omega arith)))

-- ---- all of them

pub puts_five : (x y z u v : List ℕ) {b d e f g h : List ℕ} {at i j k m r : ℕ} → r ≤ length b → Puts b at x i d → Puts d i y j e → Puts e j z k f
    → Puts f k u m g → Puts g m v r h → Puts b at (x ++ (y ++ (z ++ (u ++ v)))) r h
puts_five x y z u v {b} {d} {e} {f} l p q s t w =
    let long-d : length d ≡ length b = puts_length p (omega (arith, p.next_is, q.next_is, s.next_is, t.next_is, w.next_is)) in
    let long-e : length e ≡ length d = puts_length q (omega (arith, q.next_is, s.next_is, t.next_is, w.next_is)) in
    let long-f : length f ≡ length e = puts_length s (omega (arith, s.next_is, t.next_is, w.next_is)) in
    puts_then l p (puts_then (omega arith) q (puts_then (omega arith) s (puts_then (omega arith) t w)))
