-- The cheapest flag of a set, flag by flag.
-- Assumes nothing.
use mathlib.Core.Path.{◌≡◌, refl, ap, ap₂, ◌∙◌}
use mathlib.Core.Logic.{◌≢◌}
use mathlib.Core.List.{List}
use Prim.Native.Nat.{ℕ, suc, ◌+◌, ◌-◌, ◌*◌, ◌/◌, ◌%◌, ◌^◌, ◌≤◌, ◌<◌}
use native.Mathlib.Nat.{le_refl, mul-le-mul}
use native.Mathlib.Omega.{arith}
use borrow.Author.Count.{below_more}
use lib.ListN.{length, get_or, take, drop}
use lib.Pow.{pow_mono, shl_exact}
use Rattle.rule.specs.Bits.{bit, set_bit}
use Rattle.rule.specs.Sets.{set_size}
use Rattle.theory.proofs.Tests.{below-keep}
use Rattle.sets.specs.Post.{Size}
use Rattle.sets.proofs.Size.{size_most}
use Rattle.ways.specs.Ways.{place_of, Foldable}
use Rattle.folding.specs.Fold.{fold_count, differing, Counts}
use Rattle.folding.proofs.Outside.{rest_size}
use Rattle.stretches.specs.Stretch.{stretch_of, PartOf}
use Rattle.costing.specs.Ready.{Ready, Lowest}
use Rattle.costing.specs.Choice.{node_weight, asking_cost, via, most_cost, Bounded, CheapestBelow, Cheapest}
use Rattle.costing.proofs.Ready.{rest_half, rest_foldable, ready_flag, ready_rest, source_is, own_is}

-- ---- costs

count_most : (s : List ℕ) (p : ℕ) (d : List ℕ) → fold_count s p d ≤ length d
unfolding fold_count
count_most s p d = below-keep _ (length d)

ways_most : (s : List ℕ) (p : ℕ) → differing s p ≤ length s / 2
unfolding differing
ways_most s p = below-keep _ (length s / 2)

-- a node weighs more than all flags that walks can ask
pub heavy : (n : ℕ) → n ≤ 10 → n * 2 ^ n < node_weight
heavy n few = omega (arith, mul-le-mul few (pow_mono {i = n} {j = 10} few))

-- codes that can be folded have at most 512 nodes and ways
module _ {s : List ℕ} {p : ℕ} (f : Foldable s p) where
  source_most : length s ≤ 1024
  source_most = omega (arith, f.ways, pow_mono {i = suc f.flags} {j = 10} (omega (arith, f.few)))

  pub nodes_few : (d : List ℕ) → length s ≡ length d * 2 → fold_count s p d ≤ 512
  nodes_few d e = omega (arith, count_most s p d, source_most)

  ways_few : differing s p ≤ 512
  ways_few = omega (arith, ways_most s p, source_most)

-- a flag's cost by the counts of its nodes and ways; shifted to rows, nothing of so few ways is lost
module _ {S p a nodes ways : ℕ} {s d : List ℕ} (f : Foldable s p) (x : Counts s p d nodes ways) (y : Size S a) where
  shifted : ways * 2 ^ a % 2 ^ 32 ≡ ways * 2 ^ a
  shifted = shl_exact 10 a 32 (omega (arith, x.ways_are, ways_few f)) (omega (arith, y.most))

  pub asking_cost_is : (v : ℕ) → p ≡ place_of S v → nodes * node_weight + ways * 2 ^ a % 2 ^ 32 ≡ asking_cost S v s d
  unfolding asking_cost
  asking_cost_is v q = ap (λ (k : ℕ). nodes * node_weight + k) shifted ∙ rw (x.nodes_are, x.ways_are, q, y.is)

  pub counts_most : length s ≡ length d * 2 → nodes * node_weight + ways * 2 ^ a % 2 ^ 32 ≤ most_cost
  counts_most e =
      let few : ways * 2 ^ a ≤ 512 * 2 ^ 10 = mul-le-mul {n₂ = 512} (omega (arith, x.ways_are, ways_few f)) (pow_mono {i = a} {j = 10} y.most) in
      omega (arith, x.nodes_are, nodes_few f d e, shifted, few)

-- and that is small
pub asking-cost_most : (S v : ℕ) (s d : List ℕ) → Foldable s (place_of S v) → length s ≡ length d * 2 → set_size S ≤ 10 → asking_cost S v s d ≤ most_cost
unfolding asking_cost
asking-cost_most S v s d f e h = omega (arith, nodes_few f d e, mul-le-mul (ways_few f) (pow_mono {i = set_size S} {j = 10} h))

module _ {n S : ℕ} {starts w least : List ℕ} (g : Ready n S starts w) (f : Bounded n least) (v : ℕ) (e : bit S v ≡ 1) where
  -- a set's cost has room in 32 bits
  pub via_most : via n w least S v ≤ set_size S * most_cost
  unfolding via
  via_most =
      let few = g.started.few in
      omega (
        arith,
        f.most (set_bit S v 0) (ready_rest g v refl),
        asking-cost_most S v (stretch_of n w (set_bit S v 0)) (stretch_of n w S) (rest_foldable n S v w few g.below g.lent e)
            (rest_half n S v w few g.below g.lent e) (omega (arith, size_most n S few g.below)),
        rest_size n S v few g.below (ready_flag g v e) e,
        size_most n (set_bit S v 0) few (ready_rest g v refl),
        size_most n S few g.below,
      )

  -- the cost by the lent parts, one of them in the halves of v, is the one that the set's cost speaks of
  pub via_is : {r from to start end k p q : ℕ} {s : List ℕ} → r ≡ set_bit S v 0 → PartOf n r from to → PartOf n S start end
      → (s ≡ take (to - from) (drop from w)) × (p ≡ q) → q ≡ place_of S v
      → ((u : ℕ) → p ≡ place_of S u → k ≡ asking_cost S u s (take (end - start) (drop start w))) → get_or least r 0 + k ≡ via n w least S v
  unfolding via
  via_is rest a b halves place c =
      ap₂ ◌+◌ (ap (λ (x : ℕ). get_or least x 0) rest)
      (c v (halves.1 ∙ place) ∙ rw (halves.0 ∙ source_is g v e rest a b, own_is g v e rest a b))

-- ---- the cheapest of the flags passed

module _ {n S : ℕ} {w least : List ℕ} where
  pub cheapest_first : {x v : ℕ} → Lowest S v → x ≡ via n w least S v → CheapestBelow (v + 1) n w least S x v
  cheapest_first {x} {v} l e =
      record {
        within = omega arith;
        member = l.member;
        is = e;
        low = below_more _ _ (λ u h k. absurd (l.first u h k)) (λ k. omega arith);
        first = below_more _ _ (λ u h k. absurd (l.first u h k)) (λ k q. le_refl v);
      }

  module _ {u x v : ℕ} (c : CheapestBelow u n w least S x v) where
    pub cheapest_pass : bit S u ≢ 1 → CheapestBelow (u + 1) n w least S x v
    cheapest_pass d =
        record {
          within = omega (arith, c.within);
          member = c.member;
          is = c.is;
          low = below_more _ _ c.low (λ k. absurd (d k));
          first = below_more _ _ c.first (λ k. absurd (d k));
        }

    pub cheapest_keep : {y : ℕ} → y ≡ via n w least S u → x ≤ y → CheapestBelow (u + 1) n w least S x v
    cheapest_keep e h =
        record {
          within = omega (arith, c.within);
          member = c.member;
          is = c.is;
          low = below_more _ _ c.low (λ k. omega arith);
          first = below_more _ _ c.first (λ k q. omega (arith, c.within));
        }

    pub cheapest_take : {y : ℕ} → bit S u ≡ 1 → y ≡ via n w least S u → y < x → CheapestBelow (u + 1) n w least S y u
    cheapest_take m e h =
        record {
          within = omega arith;
          member = m;
          is = e;
          low = below_more _ _ (λ t l k. omega (arith, c.low t l k)) (λ k. omega arith);
          first = below_more _ _ (λ t l k q. absurd (omega (arith, c.low t l k))) (λ k q. le_refl u);
        }

    pub cheapest_all : {starts : List ℕ} → Ready n S starts w → n ≤ u → Cheapest n w least S x v
    cheapest_all g h =
        record {
          within = ready_flag g v c.member;
          member = c.member;
          is = c.is;
          low = λ t l. c.low t (omega arith);
          first = λ t l. c.first t (omega arith);
        }
