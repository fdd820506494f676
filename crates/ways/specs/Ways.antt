-- The numbers of ways (document 001, chapter 3): a way of a set fixes the flags outside it, and bit k of its number is the value of the k-th of them.
-- Assumes nothing.
use Rattle.std.specs.Prelude.{◌≡◌, List, ℕ, zero, suc, ◌+◌, ◌-◌, ◌*◌, ◌/◌, ◌%◌, ◌^◌, ◌≤◌, length, get_or}
use Rattle.std.specs.Int.Count.{ones_in}

-- way i with one flag more fixed to b: bit p of the new number is b, and the bits from p on move up
unfoldable pub insert_bit : ℕ → ℕ → ℕ → ℕ
insert_bit i zero b = i * 2 + b
insert_bit i (suc p) b = insert_bit (i / 2) p b * 2 + i % 2

-- the place of flag v among the flags outside the set: how many of these stand below it
unfoldable pub place_of : ℕ → ℕ → ℕ
place_of set v = v - ones_in v set

-- a stretch that can be folded at bit p: 2^(q+1) ways for some q up to 9, with p up to q
pub record Foldable (s : List ℕ) (p : ℕ) : Type 0 where
  pub flags : ℕ
  pub ways : length s ≡ 2 ^ suc flags
  pub place : p ≤ flags
  pub few : flags ≤ 9

-- the code of way i of the folded stretch in half b of the source
abbrev pub code_at : List ℕ → ℕ → ℕ → ℕ → ℕ
code_at s p i b = get_or s (insert_bit i p b) 0
