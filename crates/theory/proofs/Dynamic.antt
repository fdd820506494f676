-- The recursion over sets of flags, for any cost: it finds the least cost of all orders, and the dictionary-first order that has it.
-- A set is a number: bit v of S says that flag v is still to be asked. The cost c S v is that of asking v while S is still to be asked.
-- Assumes nothing.
use mathlib.Core.Path.{◌≡◌, refl, sym, ap, ap₂, ◌∙◌, subst}
use mathlib.Core.Logic.{◌≢◌, inl, inr}
use mathlib.Core.List.{List, [], ◌∷◌}
use Prim.Native.Nat.{ℕ, ◌+◌, ◌*◌, ◌≤◌}
use native.Mathlib.Nat.{add-mul, eq-or-lt_of_le, le_trans}
use native.Mathlib.Omega.{arith}
use lib.ListN.{length}
use Rattle.rule.specs.Bits.{bit, set_bit}
use Rattle.rule.specs.Order.{Lex}
use Rattle.theory.specs.Sets.{Follows}
use Rattle.theory.proofs.Bits.{clear_le}

-- ---- the dictionary

pub lex_refl : (o : List ℕ) → Lex o o
lex_refl [] = tt
lex_refl (v ∷ o) = inr (refl, lex_refl o)

pub lex_trans : (o p q : List ℕ) → Lex o p → Lex p q → Lex o q
lex_trans [] p q a b = tt
lex_trans (v ∷ o) [] q a b = absurd a
lex_trans (v ∷ o) (u ∷ p) [] a b = b
lex_trans (v ∷ o) (u ∷ p) (w ∷ q) (inl l) (inl k) = inl (omega arith)
lex_trans (v ∷ o) (u ∷ p) (w ∷ q) (inl l) (inr k) = inl (omega arith)
lex_trans (v ∷ o) (u ∷ p) (w ∷ q) (inr l) (inl k) = inl (omega arith)
lex_trans (v ∷ o) (u ∷ p) (w ∷ q) (inr l) (inr k) = inr (l.0 ∙ k.0, lex_trans o p q l.1 k.1)

pub lex_antisym : (o p : List ℕ) → Lex o p → Lex p o → o ≡ p
lex_antisym [] [] a b = refl
lex_antisym [] (u ∷ p) a b = absurd b
lex_antisym (v ∷ o) [] a b = absurd a
lex_antisym (v ∷ o) (u ∷ p) (inl l) (inl k) = absurd (omega arith)
lex_antisym (v ∷ o) (u ∷ p) (inl l) (inr k) = absurd (omega arith)
lex_antisym (v ∷ o) (u ∷ p) (inr l) (inl k) = absurd (omega arith)
lex_antisym (v ∷ o) (u ∷ p) (inr l) (inr k) = ap₂ {C = List ℕ} ◌∷◌ l.0 (lex_antisym o p l.1 k.1)

-- ---- the recursion

-- o asks each flag of S once
abbrev pub Lists : ℕ → List ℕ → Type 0
Lists S [] = S ≡ 0
Lists S (v ∷ o) = (bit S v ≡ 1) × Lists (set_bit S v 0) o

module _ (c : ℕ → ℕ → ℕ) where
  -- the cost of an order of the flags of S
  abbrev pub total : ℕ → List ℕ → ℕ
  total S [] = 0
  total S (v ∷ o) = c S v + total (set_bit S v 0) o

  -- no more than so much for each flag
  pub total_most : (k : ℕ) → ((S v : ℕ) → c S v ≤ k) → (S : ℕ) (o : List ℕ) → total S o ≤ length o * k
  total_most k h S [] = omega arith
  total_most k h S (v ∷ o) = omega (arith, h S v, total_most k h (set_bit S v 0) o, add-mul 1 (length o) k)

  -- o is, of all orders of the flags of S, the dictionary-first of those that cost least
  pub record IsLeast (S : ℕ) (o : List ℕ) : Type 0 where
    pub lists : Lists S o
    pub least : (p : List ℕ) → Lists S p → total S o ≤ total S p
    pub first : (p : List ℕ) → Lists S p → total S p ≡ total S o → Lex o p

  -- for the sets up to N, `best` is what the recursion computes, and `pick` the smallest flag at which the least is reached
  pub record Solved (N : ℕ) (best pick : ℕ → ℕ) : Type 0 where
    pub none : best 0 ≡ 0
    pub low : (S v : ℕ) → S ≤ N → bit S v ≡ 1 → best S ≤ c S v + best (set_bit S v 0)
    pub member : (S : ℕ) → S ≤ N → S ≢ 0 → bit S (pick S) ≡ 1
    pub reached : (S : ℕ) → S ≤ N → S ≢ 0 → best S ≡ c S (pick S) + best (set_bit S (pick S) 0)
    pub first : (S v : ℕ) → S ≤ N → bit S v ≡ 1 → best S ≡ c S v + best (set_bit S v 0) → pick S ≤ v

  module _ (N : ℕ) (best pick : ℕ → ℕ) (s : Solved N best pick) where
    -- no order costs less than the recursion says
    lower : (S : ℕ) (o : List ℕ) → S ≤ N → Lists S o → best S ≤ total S o
    lower S [] b h = omega (arith, ap best h, s.none)
    lower S (v ∷ o) b h = omega (arith, s.low S v b h.0, lower (set_bit S v 0) o (le_trans (clear_le S v) b) h.1)

    follows_lists : (S : ℕ) (o : List ℕ) → S ≤ N → Follows pick S o → Lists S o
    follows_lists S [] b f = f
    follows_lists S (v ∷ o) b f = (ap (bit S) f.1 ∙ s.member S b f.0, follows_lists (set_bit S v 0) o (le_trans (clear_le S v) b) f.2)

    -- the picked order costs that
    follows_total : (S : ℕ) (o : List ℕ) → S ≤ N → Follows pick S o → total S o ≡ best S
    follows_total S [] b f = sym (ap best f ∙ s.none)
    follows_total S (v ∷ o) b f = rw (follows_total (set_bit S v 0) o (le_trans (clear_le S v) b) f.2, s.reached S b f.0, f.1)

    -- and stands first of those that do
    follows_first : (S : ℕ) (o p : List ℕ) → S ≤ N → Follows pick S o → Lists S p → total S p ≡ best S → Lex o p
    follows_first S [] p b f l e = tt
    follows_first S (v ∷ o) [] b f l e = f.0 l
    follows_first S (v ∷ o) (u ∷ p) b f l e =
        let low : best S ≤ c S u + best (set_bit S u 0) = s.low S u b l.0 in
        let rest : best (set_bit S u 0) ≤ total (set_bit S u 0) p = lower (set_bit S u 0) p (le_trans (clear_le S u) b) l.1 in
        let fst : pick S ≤ u = s.first S u b l.0 (omega arith) in
        elim (eq-or-lt_of_le fst) [
          | inl e' ↦
              let w : v ≡ u = f.1 ∙ e' in
              inr (
                w,
                follows_first (set_bit S v 0) o p (le_trans (clear_le S v) b) f.2
                    (subst (λ (x : ℕ). Lists (set_bit S x 0) p) (sym w) l.1)
                    (subst (λ (x : ℕ). total (set_bit S x 0) p ≡ best (set_bit S x 0)) (sym w) (omega arith)),
              )
          | inr h ↦ inl (omega (arith, f.1))
        ]

    -- what the recursion picks costs least of all orders, and stands first of those that do
    pub follows_least : (S : ℕ) (o : List ℕ) → S ≤ N → Follows pick S o → IsLeast S o × (total S o ≡ best S)
    follows_least S o b f =
        let e = follows_total S o b f in
        (record { lists = follows_lists S o b f; least = λ p l. rw e (lower S p b l); first = λ p l q. follows_first S o p b f l (q ∙ e) }, e)

-- two costs in one number, in which the first weighs w
pub total_weighed : (a b : ℕ → ℕ → ℕ) (w S : ℕ) (o : List ℕ) → total (λ S v. a S v * w + b S v) S o ≡ total a S o * w + total b S o
total_weighed a b w S [] = omega arith
total_weighed a b w S (v ∷ o) = omega (arith, add-mul (a S v) (total a (set_bit S v 0) o) w, total_weighed a b w (set_bit S v 0) o)
