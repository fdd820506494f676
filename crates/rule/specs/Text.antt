-- Text in bytes, as programs read and print it (document 01, "The listing program"; document 02, requests 4 and 9).
-- Assumes nothing.
use Rattle.std.specs.Prelude.{true, false, List, [], ◌∷◌, ◌++◌, ℕ, zero, suc, ◌+◌, ◌-◌, ◌/◌, ◌%◌, eqb, ltb, length, replicate}
use Prim.Native.Char.{code}
use Prim.Native.String.{String}

-- a text in bytes
unfoldable pub text : String → List ℕ
text String.[] = []
text (String.◌∷◌ c s) = code c ∷ text s

-- a digit's byte: 30 for 0, hexadecimal
abbrev pub digit_byte : ℕ → ℕ
digit_byte x = x + 0x30

-- a number in decimal digits, by fuel: at most as many digits as the number
unfoldable pub decimal_in : ℕ → ℕ → List ℕ
decimal_in zero x = digit_byte (x % 10) ∷ []
decimal_in (suc fuel) x = elim (ltb x 10) [ true ↦ digit_byte x ∷ [] | false ↦ decimal_in fuel (x / 10) ++ (digit_byte (x % 10) ∷ []) ]

abbrev pub decimal : ℕ → List ℕ
decimal x = decimal_in x x

abbrev pub blank : ℕ
blank = 0x20

-- a number "right-aligned" in so many places (request 4)
abbrev pub right : ℕ → ℕ → List ℕ
right places x = replicate (places - length (decimal x)) blank ++ decimal x

-- a blank and a number
abbrev pub number : ℕ → List ℕ
number x = text " " ++ decimal x

-- a line end
abbrev pub line_end : List ℕ
line_end = 0x0A ∷ []

-- a line and what is left behind it: "up to the first byte 0A, or to the end"
unfoldable pub read_line : List ℕ → List ℕ × List ℕ
read_line [] = ([], [])
read_line (b ∷ bs) = elim (eqb b 0x0A) [ true ↦ ([], bs) | false ↦ (b ∷ (read_line bs).0, (read_line bs).1) ]
