-- The flag of a set that is asked first: the least cost of the set's orders, and the smallest flag that reaches it.
-- Assumes nothing.
use Rattle.std.specs.Prelude.{◌≡◌, List, ℕ, ◌+◌, ◌*◌, ◌^◌, ◌≤◌, ◌<◌, get_or}
use Rattle.rule.specs.Bits.{bit, set_bit}
use Rattle.rule.specs.Sets.{set_size}
use Rattle.ways.specs.Ways.{place_of}
use Rattle.folding.specs.Fold.{fold_count, differing}
use Rattle.stretches.specs.Stretch.{stretch_of}

-- the search adds up nodes and rows in one number: a node weighs more than all flags that the walks of ten flags can ask, 10 in each of 1,024 rows
abbrev pub node_weight : ℕ
node_weight = 16384

-- what asking v costs while the flags of S are still to be asked, by the codes s of S without v and d of S: the nodes that ask v, and the rows whose walk does.
-- A way fixes the flags outside S, so that for a set of k flags it is the way of 2^k rows
unfoldable pub asking_cost : ℕ → ℕ → List ℕ → List ℕ → ℕ
asking_cost S v s d = fold_count s (place_of S v) d * node_weight + differing s (place_of S v) * 2 ^ set_size S

-- what it costs to ask the flags of S with v first: v's own cost, and the least cost of the rest
unfoldable pub via : ℕ → List ℕ → List ℕ → ℕ → ℕ → ℕ
via n w least S v = get_or least (set_bit S v 0) 0 + asking_cost S v (stretch_of n w (set_bit S v 0)) (stretch_of n w S)

-- asking a flag costs no more: it has at most 512 nodes, and 512 ways of at most 1,024 rows each
abbrev pub most_cost : ℕ
most_cost = 512 * node_weight + 512 * 1024

-- the least costs are at most so much for each flag of the set
pub record Bounded (n : ℕ) (least : List ℕ) : Type 0 where
  pub most : (S : ℕ) → S < 2 ^ n → get_or least S 0 ≤ set_size S * most_cost

-- of the flags of S below k, v is the smallest that costs least, and that costs x
pub record CheapestBelow (k n : ℕ) (w least : List ℕ) (S x v : ℕ) : Type 0 where
  pub within : v < k
  pub member : bit S v ≡ 1
  pub is : x ≡ via n w least S v
  pub low : (u : ℕ) → u < k → bit S u ≡ 1 → x ≤ via n w least S u
  pub first : (u : ℕ) → u < k → bit S u ≡ 1 → via n w least S u ≡ x → v ≤ u

abbrev pub Cheapest : ℕ → List ℕ → List ℕ → ℕ → ℕ → ℕ → Type 0
Cheapest n w least S x v = CheapestBelow n n w least S x v
