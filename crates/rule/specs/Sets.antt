-- Sets of flags (request 2), and the fixed list of them that packing goes through (document 01, "Packing"). A set of flags is a number: bit v says that flag v is
-- in it.
-- Assumes nothing.
use Rattle.std.specs.Prelude.{List, [], ◌∷◌, ◌++◌, ℕ, zero, suc, ◌+◌, ◌-◌, ◌^◌, eqb, get_or}
use Rattle.std.specs.Int.Count.{ones_in}
use Rattle.rule.specs.Bits.{set_bit, below}
use Rattle.rule.specs.Tests.{keep}

-- "a ten-bit set of the flags" of a list: bit v is 1 where v is one of them, and any other bit 0
unfoldable pub flag_set : List ℕ → ℕ
flag_set [] = 0
flag_set (v ∷ vs) = set_bit (flag_set vs) v 1

-- "the size of a set is the number of ones in its ten-bit number"
abbrev pub set_size : ℕ → ℕ
set_size x = ones_in 10 x

-- the sets of one size, by rising number
unfoldable pub of_size : ℕ → List ℕ
of_size k = keep (λ x. eqb (set_size x) k) (below 1024)

unfoldable pub of_sizes : List ℕ → List ℕ
of_sizes [] = []
of_sizes (k ∷ ks) = of_size k ++ of_sizes ks

-- "a fixed list of all 1,024 sets of ten flags, by rising size and then rising number"
unfoldable pub sets : List ℕ
sets = of_sizes (below 11)

unfoldable pub set_at : ℕ → ℕ
set_at i = get_or sets i 0

-- "each set of k flags has its own stretch of 2^(n−k) cells": its length in the workspace of n flags
abbrev pub stretch : ℕ → ℕ → ℕ
stretch n x = 2 ^ (n - set_size x)

-- where a set's stretch starts: behind those of the sets with smaller numbers; behind all 2^n sets, "3^n in all"
unfoldable pub stretch_at : ℕ → ℕ → ℕ
stretch_at n zero = 0
stretch_at n (suc x) = stretch_at n x + stretch n x
