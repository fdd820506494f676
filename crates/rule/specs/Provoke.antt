-- The rows that a snapshot to provoke an answer is sought among (document 02, request 8), by the tables of the rule and of the pass rule alone.
-- Assumes nothing.
use Rattle.std.specs.Prelude.{◌≡◌, Bool, not, ◌&&◌, ◌||◌, List, ℕ, ◌<◌, eqb, length, get_or}
use Rattle.rule.specs.Bits.{bit, below}
use Rattle.rule.specs.Tests.{each, keep}
use Rattle.rule.specs.Walk.{table_of}
use Rattle.rule.specs.Pass.{says_no}

-- "Flags are fixed by two ten-bit sets, which are fixed and which of these are 1": a row "has the fixed values" where it gives each of ten flags that is in the
-- first set the flag's bit of the second (a higher bit in either is 9, before this counts)
unfoldable pub has_fixed : ℕ → ℕ → ℕ → Bool
has_fixed fixed ones row = each (λ i. not (eqb (bit fixed i) 1) || eqb (bit row i) (bit ones i)) (below 10)

-- there is no "1 outside the fixed set": of ten flags, each that is in the set `ones` is in the set `fixed` (higher bits as above)
unfoldable pub ones_fixed : ℕ → ℕ → Bool
ones_fixed fixed ones = each (λ i. not (eqb (bit ones i) 1) || eqb (bit fixed i) 1) (below 10)

-- a row "that the pass rule allows, that has the fixed values and gives the wanted answer"
abbrev pub serves : List ℕ → ℕ → List ℕ → ℕ → ℕ → ℕ → Bool
serves rule wanted pass fixed ones row = not (says_no pass row) && (has_fixed fixed ones row && eqb (get_or rule row 0) wanted)

-- all such rows, by rising number: the first is "the lowest row"
unfoldable pub serving : List ℕ → ℕ → List ℕ → ℕ → ℕ → List ℕ
serving rule wanted pass fixed ones = keep (serves rule wanted pass fixed ones) (below (length rule))

-- those of two nodes of a store
abbrev pub serving_in : ℕ → List ℕ → ℕ → ℕ → ℕ → ℕ → ℕ → List ℕ
serving_in n c m wanted p fixed ones = serving (table_of n c m) wanted (table_of n c p) fixed ones

-- ---- the same, by fields

-- a row "that the pass rule allows, that has the fixed values and gives the wanted answer", by the tables of the rule and of the pass rule
pub record Serves (rule : List ℕ) (wanted : ℕ) (pass : List ℕ) (fixed ones row : ℕ) : Type 0 where
  pub there : row < length rule
  pub allowed : get_or pass row 0 ≡ 1
  pub has_fixed_lem : (i : ℕ) → bit fixed i ≡ 1 → bit row i ≡ bit ones i
  pub answers : get_or rule row 0 ≡ wanted

-- there is no such row
abbrev pub NoneServes : List ℕ → ℕ → List ℕ → ℕ → ℕ → Type 0
NoneServes rule wanted pass fixed ones = (row : ℕ) → Serves rule wanted pass fixed ones row → ⊥
