-- The numbers of a tally, written one a line.
-- Assumes nothing.
use mathlib.Core.Path.{◌≡◌}
use mathlib.Core.List.{List, ◌∷◌, ◌++◌, flat_map}
use Prim.Native.Nat.{ℕ, suc, ◌+◌, ◌≤◌, ◌<◌}
use native.Mathlib.Numerals.{add-one}
use native.Mathlib.Omega.{arith}
use lib.ListN.{length, get_or, take}
use lib.Seq.{take-suc}
use Rattle.rule.specs.RigTally.{number_line}
use Rattle.theory.proofs.Flat.{flat_behind}
use Rattle.runs.specs.Run.{Puts}
use Rattle.runs.proofs.Puts.{puts_length, puts_then}

-- a number more
pub puts_next : (l : List ℕ) (i : ℕ) {b d e : List ℕ} {at m r : ℕ} → i < length l → r ≤ length b → Puts b at (flat_map number_line (take i l)) m d
    → Puts d m (number_line (get_or l i 0)) r e → Puts b at (flat_map number_line (take (i + 1) l)) r e
puts_next l i h f p q =
    let more : flat_map number_line (take (i + 1) l) ≡ flat_map number_line (take i l) ++ number_line (get_or l i 0) =
    rw (add-one, take-suc l i 0 h) (flat_behind number_line (take i l) (get_or l i 0)) in
    rw more (puts_then f p q)

-- three numbers, and the first n of those behind them
pub puts_all : (x y z n : ℕ) (l : List ℕ) {b d e f g : List ℕ} {at i j k r : ℕ} → r ≤ length b → Puts b at (number_line x) i d → Puts d i (number_line y) j e
    → Puts e j (number_line z) k f → Puts f k (flat_map number_line (take n l)) r g → Puts b at (flat_map number_line (take (3 + n) (x ∷ y ∷ z ∷ l))) r g
unfolding flat_map
puts_all x y z n l {b} {d} {e} h p q s t =
    let long-d : length d ≡ length b = puts_length p (omega (arith, p.next_is, q.next_is, s.next_is, t.next_is)) in
    let long-e : length e ≡ length d = puts_length q (omega (arith, q.next_is, s.next_is, t.next_is)) in
    let three : 3 + n ≡ suc (suc (suc n)) = omega arith in
    rw three (puts_then h p (puts_then (omega arith) q (puts_then (omega arith) s t)))
