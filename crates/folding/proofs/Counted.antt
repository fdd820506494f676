-- The counts of the ways that are nodes, and of those whose halves differ, one way at a time.
-- Assumes nothing.
use mathlib.Core.Path.{◌≡◌, refl, sym, ap, ◌∙◌}
use mathlib.Core.Bool.{Bool, true, false, and-false}
use mathlib.Core.List.{List}
use Prim.Native.Nat.{ℕ, ◌+◌, ◌*◌, ◌/◌, ◌≤◌}
use native.Mathlib.Nat.{add-zero}
use native.Mathlib.Omega.{arith}
use borrow.Author.Tests.{eq-eqb, ne_eqb}
use lib.Dec.{eqb}
use lib.ListN.{length, get_or}
use Rattle.rule.specs.Bits.{from, below}
use Rattle.rule.specs.Tests.{keep}
use Rattle.theory.proofs.Tests.{below-keep}
use Rattle.theory.proofs.Scan.{more, counted}
use Rattle.ways.specs.Ways.{code_at}
use Rattle.folding.specs.Fold.{differs, is_node, fold_count, differing}

-- of the ways below k, those that pass a test
pub passing : (ℕ → Bool) → ℕ → ℕ
passing test k = length (keep test (below k))

pub passing_none : (test : ℕ → Bool) → 0 ≡ passing test 0
unfolding passing keep from
passing_none test = refl

pub passing_le : (test : ℕ → Bool) (k : ℕ) → passing test k ≤ k
unfolding passing
passing_le test k = below-keep test k

pub nodes_all : (s : List ℕ) (p : ℕ) (d : List ℕ) → passing (is_node s p d) (length d) ≡ fold_count s p d
unfolding passing fold_count
nodes_all s p d = refl

pub ways_all : (s : List ℕ) (p : ℕ) (d : List ℕ) → length s ≡ length d * 2 → passing (differs s p) (length d) ≡ differing s p
unfolding passing differing
ways_all s p d e = let half : length d ≡ length s / 2 = omega arith in rw half

next : (test : ℕ → Bool) (i : ℕ) (b : Bool) → test i ≡ b → passing test (i + 1) ≡ passing test i + more b
unfolding passing
next test i b e = counted test i ∙ ap (λ (x : Bool). length (keep test (below i)) + more x) e

-- a and b are the two codes that were read
module _ (s : List ℕ) (p i a b : ℕ) (f : a ≡ code_at s p i 0) (g : b ≡ code_at s p i 1) where
  pub way_counted : (a ≡ b → ⊥) → passing (differs s p) (i + 1) ≡ passing (differs s p) i + 1
  unfolding differs
  way_counted h = next (differs s p) i true (rw (ne_eqb (code_at s p i 0) (code_at s p i 1) (λ q. h (f ∙ q ∙ sym g))))

  pub way_passed : a ≡ b → passing (differs s p) (i + 1) ≡ passing (differs s p) i
  unfolding differs
  way_passed h = next (differs s p) i false (rw (eq-eqb (code_at s p i 0) (code_at s p i 1) (sym f ∙ h ∙ g))) ∙ add-zero _

  module _ (d : List ℕ) where
    pub node_counted : get_or d i 0 ≡ i → (a ≡ b → ⊥) → passing (is_node s p d) (i + 1) ≡ passing (is_node s p d) i + 1
    unfolding is_node differs
    node_counted e h =
        next (is_node s p d) i true (rw (eq-eqb (get_or d i 0) i e, ne_eqb (code_at s p i 0) (code_at s p i 1) (λ q. h (f ∙ q ∙ sym g))))

    pub halves_passed : a ≡ b → passing (is_node s p d) (i + 1) ≡ passing (is_node s p d) i
    unfolding is_node differs
    halves_passed h =
        next (is_node s p d) i false (rw (eq-eqb (code_at s p i 0) (code_at s p i 1) (sym f ∙ h ∙ g)) (and-false (eqb (get_or d i 0) i))) ∙ add-zero _

pub later_passed : (s : List ℕ) (p i : ℕ) (d : List ℕ) → (get_or d i 0 ≡ i → ⊥) → passing (is_node s p d) (i + 1) ≡ passing (is_node s p d) i
unfolding is_node
later_passed s p i d h = next (is_node s p d) i false (rw (ne_eqb (get_or d i 0) i h)) ∙ add-zero _
