-- The plain book of a run is computed from its words: an open of two flags, both flags, the join of them by code 7 (OR), the tabulate of it into four bytes, an
-- open of three flags, and its flag 2.
-- Assumes nothing.
use mathlib.Core.Path.{◌≡◌, refl}
use mathlib.Core.List.{List, [], ◌∷◌, ◌++◌}
use mathlib.Core.Option.{none, some}
use Prim.Native.Nat.{ℕ, ◌-◌}
use lib.ListN.{length, replicate}
use Rattle.rule.specs.Bits.{bit, from}
use Rattle.rule.specs.Tests.{each}
use Rattle.rule.specs.History.{lookup, in_book}
use Rattle.coding.specs.Coded.{call_words, request_at, given_at}
use Rattle.noting.specs.Noted.{note_words}
use Rattle.playing.specs.Book.{book_played}

-- a call's words, zeros behind what it asks, and those of its answer, zeros behind what it tells
pub coded : List ℕ → List ℕ
coded l = l ++ replicate (call_words - length l) 0

pub noted : List ℕ → List ℕ
noted l = l ++ replicate (note_words - length l) 0

pub words : List ℕ
words =
    coded (0 ∷ 2 ∷ 0 ∷ 0 ∷ 1 ∷ []) ++ coded (2 ∷ 0 ∷ []) ++ coded (2 ∷ 1 ∷ []) ++ coded (3 ∷ 7 ∷ 2 ∷ 3 ∷ []) ++ coded (6 ∷ 4 ∷ 4 ∷ [])
    ++ coded (0 ∷ 3 ∷ 0 ∷ 0 ∷ 1 ∷ 2 ∷ []) ++ coded (2 ∷ 2 ∷ [])

pub answers : List ℕ
answers =
    noted (0 ∷ []) ++ noted (0 ∷ 2 ∷ []) ++ noted (0 ∷ 3 ∷ []) ++ noted (0 ∷ 4 ∷ []) ++ noted (0 ∷ []) ++ noted (0 ∷ [])
    ++ noted (0 ∷ 2 ∷ [])

-- after five calls node 4 has the join, after all seven node 2 has the flag and node 4 nothing
pub book_computed : (in_book (book_played words answers 5) 4 ≡ some (0 ∷ 1 ∷ 1 ∷ 1 ∷ []))
    × (in_book (book_played words answers 7) 2 ≡ some (0 ∷ 0 ∷ 0 ∷ 0 ∷ 1 ∷ 1 ∷ 1 ∷ 1 ∷ [])) × (in_book (book_played words answers 7) 4 ≡ none)
unfolding coded noted words answers bit from each lookup request_at given_at
book_computed = (refl, refl, refl)
