-- A part of a list, and a list with another written over a part: that part is the other, and every part beside it is as it was.
-- Assumes nothing.
use mathlib.Core.Path.{◌≡◌, sym, ap, ◌∙◌}
use mathlib.Core.Logic.{◌⊎◌, inl, inr}
use mathlib.Core.List.{List, ◌++◌}
use Prim.Native.Nat.{ℕ, ◌+◌, ◌-◌, ◌≤◌, ◌<◌}
use native.Mathlib.Omega.{arith}
use lib.ListN.{length, get_or, take, drop, length-append, length-take, length-drop, get_or-append}
use lib.Seq.{ext_get_or, length-take-le, get_or-take, get_or-drop, get_or-append-add}

-- the k entries from place a on
unfoldable pub part : List ℕ → ℕ → ℕ → List ℕ
part w a k = take k (drop a w)

pub part_length : (w : List ℕ) (a k : ℕ) → a + k ≤ length w → length (part w a k) ≡ k
unfolding part
part_length w a k h = simp (length-take, length-drop) (omega arith)

part_at : (w : List ℕ) (a k i : ℕ) → i < k → get_or (part w a k) i 0 ≡ get_or w (a + i) 0
unfolding part
part_at w a k i h = rw (get_or-take, get_or-drop)

-- a part written over, and what is left of the others
module _ (w ys : List ℕ) (a k : ℕ) (h : a + k ≤ length w) (l : length ys ≡ k) where
  abbrev pub over : List ℕ
  over = take a w ++ (ys ++ drop k (drop a w))

  front : length (take a w) ≡ a
  front = length-take-le a w (omega arith)

  pub over_length : length over ≡ length w
  over_length = simp (length-append, length-drop, front) (omega arith)

  over_before : (i : ℕ) → i < a → get_or over i 0 ≡ get_or w i 0
  over_before i g = get_or-append (take a w) (ys ++ drop k (drop a w)) 0 i (omega (arith, front)) ∙ get_or-take a w i 0 g

  behind : (i : ℕ) → get_or over (a + i) 0 ≡ get_or (ys ++ drop k (drop a w)) i 0
  behind i = ap (λ (x : ℕ). get_or over (x + i) 0) (sym front) ∙ get_or-append-add (take a w) (ys ++ drop k (drop a w)) i 0

  over_own : (i : ℕ) → i < k → get_or over (a + i) 0 ≡ get_or ys i 0
  over_own i g = behind i ∙ get_or-append ys (drop k (drop a w)) 0 i (omega arith)

  over_behind : (i : ℕ) → a + k ≤ i → get_or over i 0 ≡ get_or w i 0
  over_behind i g =
      let p : a + (length ys + (i - (a + k))) ≡ i = omega arith in
      let q : a + (k + (i - (a + k))) ≡ i = omega arith in
      ap (λ (x : ℕ). get_or over x 0) (sym p)
      ∙ behind (length ys + (i - (a + k)))
      ∙ get_or-append-add ys (drop k (drop a w)) (i - (a + k)) 0
      ∙ get_or-drop k (drop a w) (i - (a + k)) 0
      ∙ get_or-drop a w (k + (i - (a + k))) 0
      ∙ ap (λ (x : ℕ). get_or w x 0) q

  pub own_part : part over a k ≡ ys
  own_part =
      let e : length (part over a k) ≡ k = part_length over a k (omega (arith, over_length)) in
      ext_get_or 0 (part over a k) ys (e ∙ sym l) (λ i g. part_at over a k i (omega arith) ∙ over_own i (omega arith))

  pub other_part : (b m : ℕ) → b + m ≤ length w → (b + m ≤ a) ⊎ (a + k ≤ b) → part over b m ≡ part w b m
  other_part b m g o =
      let e : length (part over b m) ≡ m = part_length over b m (omega (arith, over_length)) in
      ext_get_or 0 (part over b m) (part w b m) (e ∙ sym (part_length w b m g))
      (λ i f. part_at over b m i (omega arith) ∙ at i (omega arith) o ∙ sym (part_at w b m i (omega arith)))
    where
      at : (i : ℕ) → i < m → (b + m ≤ a) ⊎ (a + k ≤ b) → get_or over (b + i) 0 ≡ get_or w (b + i) 0
      at i f (inl x) = over_before (b + i) (omega arith)
      at i f (inr x) = over_behind (b + i) (omega arith)
