-- Friedman's lemma (document 001, chapter 3): the nodes that ask a flag are the same for all orders that ask the same set of flags before it.
-- Assumes nothing.
use mathlib.Core.Path.{◌≡◌, refl, ◌∙◌}
use mathlib.Core.Logic.{◌≢◌, inl, inr}
use mathlib.Core.Bool.{true}
use mathlib.Core.List.{List, ◌∷◌}
use Prim.Native.Nat.{ℕ, zero, suc, ◌<◌, ◌^◌}
use native.Mathlib.Decide.{ℕ_discrete}
use native.Mathlib.Omega.{arith}
use lib.ListN.{length}
use Rattle.rule.specs.Tests.{keep}
use Rattle.rule.specs.Table.{cofactor, depends, fixings}
use Rattle.rule.specs.Level.{level_nodes, level_count}
use Rattle.theory.proofs.Member.{In, head, tail, append_cases, append_left, append_right, Perm, nil, cons, swap, trans}
use Rattle.theory.proofs.Tests.{keep_in, in_keep}
use Rattle.theory.proofs.Perm.{Once, Within, perm_back, perm_of_set, once_set}
use Rattle.theory.proofs.Distinct.{distinct_in, in_distinct, distinct_once}
use Rattle.theory.proofs.Cofactor.{length-cofactor, cofactor_comm}

-- ---- the tables that arise by fixing flags

-- what arises with i fixed to some b arises by fixing i too, and the other way round
pub branch : (i : ℕ) (l t : List ℕ) (b : ℕ) {u : List ℕ} → b < 2 → In u (fixings l (cofactor i b t)) → In u (fixings (i ∷ l) t)
unfolding fixings
branch i l t zero h m = append_left (fixings l (cofactor i 1 t)) m
branch i l t (suc zero) h m = append_right (fixings l (cofactor i 0 t)) m
branch i l t (suc (suc b)) h m = absurd (omega arith)

pub unbranch : (i : ℕ) (l t : List ℕ) {u : List ℕ} → In u (fixings (i ∷ l) t) → (b : ℕ) × (b < 2) × In u (fixings l (cofactor i b t))
unfolding fixings
unbranch i l t m = elim (append_cases (fixings l (cofactor i 0 t)) m) [ inl k ↦ (0, omega arith, k) | inr k ↦ (1, omega arith, k) ]

-- each flag of the list is one of n
abbrev pub Flags : ℕ → List ℕ → Type 0
Flags n l = (i : ℕ) → In i l → i < n

module _ (n : ℕ) where
  pub fixings_swap : (i j : ℕ) (l t : List ℕ) → length t ≡ 2 ^ n → i < n → j < n → i ≢ j → Within (fixings (i ∷ j ∷ l) t) (fixings (j ∷ i ∷ l) t)
  fixings_swap i j l t fit i<n j<n i≢j u m =
      let (a, a<2, m₁) = unbranch i (j ∷ l) t m in
      let (b, b<2, m₂) = unbranch j l (cofactor i a t) m₁ in
      branch j (i ∷ l) t b b<2 (branch i l (cofactor j b t) a a<2 (rw (cofactor_comm n t fit i j a b i<n j<n a<2 b<2 i≢j) m₂))

  fixings_perm : {l m : List ℕ} → Perm l m → Flags n l → (t : List ℕ) → length t ≡ 2 ^ n → Within (fixings l t) (fixings m t)
  fixings_perm nil small t fit u k = k
  fixings_perm (cons {a = a} {b = a'} {l₁ = l} {l₂ = m} e p) small t fit u k =
      let (b, b<2, k') = unbranch a l t k in
      branch a' m t b b<2 (rw (← e) (fixings_perm p (λ i q. small i (tail q)) (cofactor a b t) (length-cofactor a b t ∙ fit) u k'))
  fixings_perm (swap {a = a} {b = b} {a' = b'} {b' = a'} {l = l} e e') small t fit u k = rw (← e, ← e') (go (ℕ_discrete a b))
    where
      go : Dec (a ≡ b) → In u (fixings (b ∷ a ∷ l) t)
      go (yes q) = rw q (rw q at k)
      go (no d) = fixings_swap a b l t fit (small a (head refl)) (small b (tail (head refl))) d u k
  fixings_perm (trans p q) small t fit u k = fixings_perm q (λ i r. small i (perm_back p i r)) t fit u (fixings_perm p small t fit u k)

-- ---- the nodes of a level

-- a node that asks v is a table that depends on v and arises by fixing the flags before it, and none stands twice
pub level_in : (before : List ℕ) (v : ℕ) (t : List ℕ) {u : List ℕ} → In u (level_nodes before v t) → In u (fixings before t) × (depends v u ≡ true)
unfolding level_nodes
level_in before v t {u} m = keep_in (depends v) (fixings before t) (distinct_in (keep (depends v) (fixings before t)) u m)

pub in_level : (before : List ℕ) (v : ℕ) (t : List ℕ) {u : List ℕ} → In u (fixings before t) → depends v u ≡ true → In u (level_nodes before v t)
unfolding level_nodes
in_level before v t {u} m d = in_distinct (keep (depends v) (fixings before t)) u (in_keep (depends v) (fixings before t) m d)

pub level_once : (before : List ℕ) (v : ℕ) (t : List ℕ) → Once (level_nodes before v t)
unfolding level_nodes
level_once before v t = distinct_once (keep (depends v) (fixings before t))

-- ---- the lemma, for two lists without repeats that have the same members below n

-- a number that goes by the set of the flags of a list, not by their sequence
abbrev pub BySet : ℕ → (List ℕ → ℕ) → Type 0
BySet n f = (l m : List ℕ) → Once l → Once m → Within l m → Within m l → Flags n l → f l ≡ f m

module _ (n : ℕ) (before before' : List ℕ) (o : Once before) (o' : Once before') (w : Within before before') (w' : Within before' before)
    (small : Flags n before) (t : List ℕ) (fit : length t ≡ 2 ^ n) where
  -- the same tables arise
  pub fixings_set : Within (fixings before t) (fixings before' t)
  fixings_set = fixings_perm n (perm_of_set before before' o o' w w') small t fit

  -- the same nodes ask v
  pub friedman_nodes : (v : ℕ) → Within (level_nodes before v t) (level_nodes before' v t)
  friedman_nodes v u m = let k = level_in before v t m in in_level before' v t (fixings_set u k.0) k.1

-- and equally many
pub friedman_set : (n : ℕ) (t : List ℕ) → length t ≡ 2 ^ n → (v : ℕ) → BySet n (λ l. level_count l v t)
friedman_set n t fit v before before' o o' w w' small =
    once_set (level_nodes before v t) (level_nodes before' v t) (level_once before v t) (level_once before' v t)
    (friedman_nodes n before before' o o' w w' small t fit v)
    (friedman_nodes n before' before o' o w' w (λ i m. small i (w' i m)) t fit v)
