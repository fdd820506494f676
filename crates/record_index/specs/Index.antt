-- The index beside the cells: where the search for a record starts and goes on.
-- Assumes nothing.
use Rattle.std.specs.Prelude.{◌≡◌, cond, List, ℕ, zero, suc, ◌+◌, ◌*◌, ◌%◌, ◌<◌, eqb, length, get_or, replicate}
use Rattle.rule.specs.Cells.{most_records, flag_at, low_at, high_at}

-- how many hashes there are
abbrev pub heads : ℕ
heads = 4096

-- and links: one for each record that cells can hold
abbrev pub links : ℕ
links = most_records

-- what the flag and the high node are multiplied by in a hash
abbrev pub flag_factor : ℕ
flag_factor = 349

abbrev pub high_factor : ℕ
high_factor = 633

-- The hash of a flag, a low and a high node. Nothing rests on how it spreads but the time of a search.
unfoldable pub hash : ℕ → ℕ → ℕ → ℕ
hash flag low high = (flag * flag_factor + low + high * high_factor) % heads

-- of record k
abbrev pub hash_at : List ℕ → ℕ → ℕ
hash_at c k = hash (flag_at c k) (low_at c k) (high_at c k)

-- the last record below k whose hash is h, plus 1, or 0
unfoldable pub last_with : List ℕ → ℕ → ℕ → ℕ
last_with c h zero = 0
last_with c h (suc k) = cond (eqb (hash_at c k) h) (suc k) (last_with c h k)

-- where no record is entered
abbrev pub empty_index : List ℕ
empty_index = replicate (heads + links) 0

-- the used records are entered: each head has the last of them with its hash, and each record's link the last before it with the same hash
pub record Indexed (c : List ℕ) (used : ℕ) (index : List ℕ) : Type 0 where
  pub lent : length index ≡ heads + links
  pub head : (h : ℕ) → h < heads → get_or index h 0 ≡ last_with c h used
  pub link : (k : ℕ) → k < used → get_or index (heads + k) 0 ≡ last_with c (hash_at c k) k
