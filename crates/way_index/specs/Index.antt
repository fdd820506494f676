-- The index beside a stretch that is folded: where the search for the first way with two codes starts and goes on. Only first ways are entered.
-- Assumes nothing.
use Rattle.std.specs.Prelude.{◌≡◌, List, ℕ, ◌+◌, ◌*◌, ◌%◌, ◌≤◌, ◌<◌, length, get_or}
use Rattle.ways.specs.Ways.{code_at}

-- ---- the first way with two codes

-- ways i and j have the same two codes
abbrev pub Same : List ℕ → ℕ → ℕ → ℕ → Type 0
Same s p i j = (code_at s p i 0 ≡ code_at s p j 0) × (code_at s p i 1 ≡ code_at s p j 1)

-- no way before i has its codes
abbrev pub New : List ℕ → ℕ → ℕ → Type 0
New s p i = (j : ℕ) → j < i → Same s p j i → ⊥

-- r is the first way with the codes of way i
pub record First (s : List ℕ) (p i r : ℕ) : Type 0 where
  pub within : r ≤ i
  pub same : Same s p r i
  pub new : New s p r

-- ---- the index

-- how many hashes there are, and how many links
abbrev pub heads : ℕ
heads = 1024

abbrev pub links : ℕ
links = 512

-- what the second code is multiplied by in a hash
abbrev pub factor : ℕ
factor = 633

-- The hash of two codes. Nothing rests on how it spreads but the time of a search.
unfoldable pub hash : ℕ → ℕ → ℕ
hash low high = (low + high * factor) % heads

abbrev pub hash_at : List ℕ → ℕ → ℕ → ℕ
hash_at s p i = hash (code_at s p i 0) (code_at s p i 1)

-- l is the last first way below k whose hash is h, plus 1, or 0 where there is none
pub record Last (s : List ℕ) (p h k l : ℕ) : Type 0 where
  pub within : l ≤ k
  pub hits : (j : ℕ) → l ≡ j + 1 → New s p j × (hash_at s p j ≡ h)
  pub above : (j : ℕ) → l ≤ j → j < k → New s p j → hash_at s p j ≡ h → ⊥

-- the first ways below i are entered: each head has the last of them with its hash, and each of their links the last before it with the same hash
pub record Indexed (s : List ℕ) (p i : ℕ) (index : List ℕ) : Type 0 where
  pub lent : length index ≡ heads + links
  pub head : (h : ℕ) → h < heads → Last s p h i (get_or index h 0)
  pub link : (k : ℕ) → k < i → New s p k → Last s p (hash_at s p k) k (get_or index (heads + k) 0)
