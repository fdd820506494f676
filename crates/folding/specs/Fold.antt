-- Folding: the codes of a set's ways from those of the set without one flag (document 001, chapter 3), the nodes that ask that flag, and the ways that do.
-- Two ways have one code exactly where their rules agree.
-- Assumes nothing.
use Rattle.std.specs.Prelude.{◌≡◌, ◌↔◌, Bool, ◌&&◌, not, List, ℕ, ◌*◌, ◌/◌, ◌≤◌, ◌<◌, eqb, length, get_or}
use Rattle.rule.specs.Bits.{below}
use Rattle.rule.specs.Tests.{keep}
use Rattle.ways.specs.Ways.{insert_bit, code_at}

-- s folded at bit p is d: two ways have one code exactly where they have in both halves, and a code is the first way that has it
pub record Folds (s : List ℕ) (p : ℕ) (d : List ℕ) : Type 0 where
  pub half : length s ≡ length d * 2
  pub same : (i j : ℕ) → i < length d → j < length d
      → (get_or d i 0 ≡ get_or d j 0)
      ↔ ((get_or s (insert_bit i p 0) 0 ≡ get_or s (insert_bit j p 0) 0) × (get_or s (insert_bit i p 1) 0 ≡ get_or s (insert_bit j p 1) 0))
  pub first : (i : ℕ) → i < length d → (get_or d i 0 ≤ i) × (get_or d (get_or d i 0) 0 ≡ get_or d i 0)

-- way i has two halves that differ
unfoldable pub differs : List ℕ → ℕ → ℕ → Bool
differs s p i = not (eqb (code_at s p i 0) (code_at s p i 1))

-- it is also the first with its code
unfoldable pub is_node : List ℕ → ℕ → List ℕ → ℕ → Bool
is_node s p d i = eqb (get_or d i 0) i && differs s p i

-- how many ways are the first with their code and have two halves that differ
unfoldable pub fold_count : List ℕ → ℕ → List ℕ → ℕ
fold_count s p d = length (keep (is_node s p d) (below (length d)))

-- how many ways have two halves that differ
unfoldable pub differing : List ℕ → ℕ → ℕ
differing s p = length (keep (differs s p) (below (length s / 2)))

-- both counts, of a source and codes
pub record Counts (s : List ℕ) (p : ℕ) (d : List ℕ) (nodes ways : ℕ) : Type 0 where
  pub nodes_are : nodes ≡ fold_count s p d
  pub ways_are : ways ≡ differing s p
