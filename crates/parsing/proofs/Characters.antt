-- The characters of a line: the test of each, and the rows that they stand for.
-- Assumes nothing.
use mathlib.Core.Path.{◌≡◌, refl, sym, ◌∙◌}
use mathlib.Core.Bool.{Bool, true, false, ◌||◌, true≢false}
use mathlib.Core.List.{List, [], ◌∷◌, ◌++◌}
use Prim.Native.Nat.{ℕ, ◌-◌, ◌≤◌, ◌<◌}
use native.Mathlib.Nat.{sub-zero}
use native.Mathlib.Omega.{arith}
use borrow.Author.Tests.{eqb-true, lt-ltb}
use lib.Dec.{eqb}
use lib.ListN.{length, get_or, take, drop, replicate, length-map, get_or-map}
use lib.Seq.{take_at, ext_get_or}
use Rattle.rule.specs.Tests.{each}
use Rattle.rule.specs.Table.{fit_rows}
use Rattle.rule.specs.Listing.{most_rows, is_digit, rows_of}
use Rattle.theory.proofs.Tests.{and_split, and_join, each_in, at_each}
use Rattle.theory.proofs.Scan.{at_in, fails_at}

-- a digit is the byte 30 or 31, hexadecimal
digit_range : (b : ℕ) → is_digit b ≡ true → (48 ≤ b) × (b ≤ 49)
digit_range b e = go (eqb b 48) refl (eqb b 49) refl e
  where
    go : (p : Bool) → eqb b 48 ≡ p → (q : Bool) → eqb b 49 ≡ q → (p || q) ≡ true → (48 ≤ b) × (b ≤ 49)
    go true e q f h = let z = eqb-true b 48 e in (omega arith, omega arith)
    go false e true f h = let z = eqb-true b 49 f in (omega arith, omega arith)
    go false e false f h = absurd (true≢false (sym h))

-- a test of each byte, by its two answers
pub each_byte : (p : ℕ → Bool) (l : List ℕ) (all : Bool) → (all ≡ true → (k : ℕ) → k < length l → p (get_or l k 0) ≡ true)
    → (all ≡ false → (k : ℕ) × (k < length l) × (p (get_or l k 0) ≡ false)) → all ≡ each p l
each_byte p l true f g = sym (at_each p l 0 (f refl))
each_byte p l false f g = let (k, h, e) = g refl in sym (fails_at p l k h e)

pub rows_fit : (line : List ℕ) → each is_digit line ≡ true → fit_rows (rows_of line) ≡ true
unfolding fit_rows each
rows_fit [] h = refl
rows_fit (b ∷ bs) h =
    let (d, ds) = and_split (is_digit b) (each is_digit bs) h in
    let (_, le) = digit_range b d in
    and_join (lt-ltb (b - 48) 2 (omega arith)) (rows_fit bs ds)

pub rows_length : (line : List ℕ) → length (rows_of line) ≡ length line
rows_length line = length-map line (λ b. b - 48)

-- ---- read one by one

pub digit_at : (line : List ℕ) (i : ℕ) → each is_digit line ≡ true → i < length line → 48 ≤ get_or line i 0
digit_at line i h l = (digit_range (get_or line i 0) (each_in is_digit line h (at_in 0 line i l))).0

-- the first i rows are read
abbrev pub Read : List ℕ → List ℕ → ℕ → Type 0
Read line rows i = ((k : ℕ) → k < i → get_or rows k 0 ≡ get_or line k 0 - 48)

pub read_all : (line rows : List ℕ) (i : ℕ) → length line ≤ i → length rows ≡ length line → Read line rows i → rows ≡ rows_of line
read_all line rows i h l f =
    ext_get_or 0 rows (rows_of line) (l ∙ sym (rows_length line)) (λ k j. f k (omega arith) ∙ sym (get_or-map (λ b. b - 48) line k 0))

-- ---- in the first of as many bytes as a table has at most

pub read_front : (line : List ℕ) {d : List ℕ} → d ≡ rows_of line → take (length line - 0) (d ++ drop (length line - 0) (replicate most_rows 0)) ≡ rows_of line
read_front line e = rw (e, sub-zero) (take_at (rows_of line) _ (length line) (rows_length line))
