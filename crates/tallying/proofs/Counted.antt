-- The counts of a set's flags, place by place.
-- Assumes nothing.
use mathlib.Core.Path.{◌≡◌, sym, ap, ◌∙◌}
use mathlib.Core.List.{List, ◌++◌, append-nil}
use Prim.Native.Nat.{ℕ, suc, ◌+◌, ◌/◌, ◌%◌, ◌<◌, ◌≤◌}
use lib.ListN.{length, get_or, set, take, drop, drop_of_length-le}
use lib.Seq.{drop-cons, take-suc-set, drop-set-lt, append_snoc, take_all, get_or-drop, drop-drop}
use native.Mathlib.Omega.{arith}
use native.Mathlib.Numerals.{add-one}
use Rattle.tallying.specs.Tally.{counted}

-- the places before i are counted, and those from i on are to be
abbrev pub up_to : ℕ → List ℕ → ℕ → List ℕ
up_to i l rest = take i l ++ counted (drop i l) rest

pub up_to-more : (i : ℕ) (l : List ℕ) (rest : ℕ) → i < length l → up_to (i + 1) (set l i (get_or l i 0 + rest % 2)) (rest / 2) ≡ up_to i l rest
unfolding counted
up_to-more i l rest h = rw (add-one, take-suc-set l i _ h, drop-set-lt (suc i) l i _ (omega arith), drop-cons l i 0 h, append_snoc)

-- the places from i on are those of another list
pub from_more : (i a : ℕ) (l m : List ℕ) → drop i l ≡ drop i m → drop (i + 1) (set l i a) ≡ drop (i + 1) m
from_more i a l m e =
    drop-set-lt (i + 1) l i a (omega arith) ∙ sym (drop-drop 1 i l) ∙ ap (drop 1) e ∙ drop-drop 1 i m

pub from_at : (i : ℕ) (l m : List ℕ) → drop i l ≡ drop i m → get_or l i 0 ≡ get_or m i 0
from_at i l m e = let z : i + 0 ≡ i = omega arith in ap (λ (k : ℕ). get_or l k 0) (sym z) ∙ sym (get_or-drop i l 0 0) ∙ ap (λ (k : List ℕ). get_or k 0 0) e ∙ get_or-drop i m 0 0 ∙ ap (λ (k : ℕ). get_or m k 0) z

pub up_to_all : (i : ℕ) (l : List ℕ) (rest : ℕ) → length l ≤ i → up_to i l rest ≡ l
unfolding counted
up_to_all i l rest h = rw (take_all i l h, drop_of_length-le l h, append-nil)
