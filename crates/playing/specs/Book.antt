-- What the plain book is fed of a run: read off the words that code its calls and those that its answers stand in.
-- Assumes nothing.
use Rattle.std.specs.Prelude.{List, [], ◌∷◌, ℕ, zero, suc, ◌+◌}
use Rattle.rule.specs.History.{Fed, Book, book_of}
use Rattle.coding.specs.Coded.{asked_at}
use Rattle.noting.specs.Noted.{note_at, reply_by}

-- what the book is fed of call k: what its words ask, and the answer that is noted for it
abbrev pub fed_at : List ℕ → List ℕ → ℕ → Fed
fed_at w a k = record { asked = asked_at w k; answer = reply_by (asked_at w k) (note_at a k) }

-- of so many calls from call k on
abbrev pub fed_from : List ℕ → List ℕ → ℕ → ℕ → List Fed
fed_from w a k zero = []
fed_from w a k (suc made) = fed_at w a k ∷ fed_from w a (k + 1) made

-- of the first so many calls
abbrev pub fed_played : List ℕ → List ℕ → ℕ → List Fed
fed_played w a made = fed_from w a 0 made

abbrev pub empty_book : Book
empty_book = record { n = 0; rules = [] }

-- the plain book of a run: of the words that code its calls and those that its answers stand in
abbrev pub book_played : List ℕ → List ℕ → ℕ → Book
book_played w a made = book_of empty_book (fed_played w a made)
