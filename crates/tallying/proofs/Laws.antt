-- The tally of snapshots, each number counted apart, and the next one.
-- Assumes nothing.
use mathlib.Core.Path.{◌≡◌, refl, sym, ap, ◌∙◌}
use mathlib.Core.Bool.{cond}
use mathlib.Core.List.{List, [], ◌∷◌, ◌++◌, map}
use Prim.Native.Nat.{ℕ, zero, suc, ◌+◌, ◌/◌, ◌%◌, ◌≤◌, ◌<◌}
use native.Mathlib.Omega.{arith}
use borrow.Author.Tests.{ne_eqb}
use lib.Dec.{eqb}
use lib.ListN.{length, get_or, length-append}
use Rattle.rule.specs.Bits.{bit, from, below}
use Rattle.rule.specs.Tests.{add_if, keep}
use Rattle.rule.specs.Log.{Played, yes_answers, changes_behind, changes, times_asked}
use Rattle.theory.proofs.Bits.{bit_lt}
use Rattle.theory.proofs.Tests.{keep_append, length_keep}
use Rattle.theory.proofs.Log.{changes_le}
use Rattle.tallying.specs.Tally.{no_tally, tally_for, counted, changed, next_tally, Counts}

-- the answer of the last of these snapshots, where the one before them answered so
unfoldable pub last_answer : ℕ → List Played → ℕ
last_answer last [] = last
last_answer last (p ∷ ps) = last_answer p.0 ps

pub last_more : (last : ℕ) (ps : List Played) (p : Played) → last_answer last (ps ++ (p ∷ [])) ≡ p.0
unfolding last_answer
last_more last [] p = refl
last_more last (q ∷ ps) p = last_more q.0 ps p

pub none-played : no_tally ≡ tally_for []
unfolding from keep yes_answers changes times_asked
none-played = refl

-- ---- each number with a snapshot more

-- a number below 2 is 1 or it is not counted
one_of : (x : ℕ) (p : Played) → x < 2 → length (add_if (eqb x 1) p []) ≡ x
one_of zero p h = refl
one_of (suc zero) p h = refl
one_of (suc (suc x)) p h = let z : ⊥ = omega arith in absurd z

kept_more : (f : Played → ℕ) (ps : List Played) (p : Played) → f p < 2
    → length (keep (λ q. eqb (f q) 1) (ps ++ (p ∷ []))) ≡ length (keep (λ q. eqb (f q) 1) ps) + f p
unfolding keep
kept_more f ps p h =
    ap length (keep_append (λ q. eqb (f q) 1) ps (p ∷ []))
    ∙ length-append (keep (λ q. eqb (f q) 1) ps) (keep (λ q. eqb (f q) 1) (p ∷ []))
    ∙ ap (λ (x : ℕ). length (keep (λ q. eqb (f q) 1) ps) + x) (one_of (f p) p h)

behind_more : (last : ℕ) (ps : List Played) (p : Played)
    → changes_behind last (ps ++ (p ∷ [])) ≡ changes_behind last ps + cond (eqb p.0 (last_answer last ps)) 0 1
unfolding changes_behind last_answer
behind_more last [] p = omega arith
behind_more last (q ∷ ps) p = omega (arith, behind_more q.0 ps p)

changes-more : (ps : List Played) (p : Played) → changes (ps ++ (p ∷ [])) ≡ changes ps + changed (length ps) (last_answer 0 ps) p.0
unfolding changes changes_behind changed last_answer
changes-more [] p = refl
changes-more (q ∷ ps) p = rw (ne_eqb (length (q ∷ ps)) 0 (omega arith)) (behind_more q.0 ps p)

-- the counts of so many flags from flag k on, where h has one more than g for each flag of the set
counted-more : (g h : ℕ → ℕ) (k m flags : ℕ) → ((j : ℕ) → h (k + j) ≡ g (k + j) + bit flags j) → counted (map g (from k m)) flags ≡ map h (from k m)
unfolding counted from bit
counted-more g h k zero flags e = refl
counted-more g h k (suc m) flags e =
    let here : k + 0 ≡ k = omega arith in
    let first : h k ≡ g k + flags % 2 = rw here at (e 0) in
    let next : (j : ℕ) → suc k + j ≡ k + suc j = λ j. omega arith in
    ap (λ (x : ℕ). x ∷ counted (map g (from (suc k) m)) (flags / 2)) (sym first)
    ∙ ap (λ (l : List ℕ). h k ∷ l) (counted-more g h (suc k) m (flags / 2) (λ j. rw (next j) (e (suc j))))

from_zero : (j : ℕ) → 0 + j ≡ j
from_zero j = omega arith

pub tally_more : (ps : List Played) (p : Played) (last : ℕ) → p.0 < 2 → last ≡ last_answer 0 ps
    → next_tally (tally_for ps) last p.0 p.1 ≡ tally_for (ps ++ (p ∷ []))
unfolding yes_answers times_asked
tally_more ps p last h e = λ i. record {
  played = sym (length-append ps (p ∷ [])) i;
  yes = sym (kept_more (λ q. q.0) ps p h) i;
  changes = (ap (λ (x : ℕ). changes ps + changed (length ps) x p.0) e ∙ sym (changes-more ps p)) i;
  asked = counted-more (times_asked ps) (times_asked (ps ++ (p ∷ []))) 0 10 p.1 (λ j. rw (from_zero j) (kept_more (λ q. bit q.1 j) ps p (bit_lt p.1 j))) i;
}

-- ---- no number is above that of the snapshots

mapped_le : (f : ℕ → ℕ) (most : ℕ) (l : List ℕ) → ((v : ℕ) → f v ≤ most) → (k : ℕ) → get_or (map f l) k 0 ≤ most
mapped_le f most [] h k = omega arith
mapped_le f most (v ∷ l) h zero = h v
mapped_le f most (v ∷ l) h (suc k) = mapped_le f most l h k

pub counts_of : (ps : List Played) → Counts (tally_for ps)
unfolding yes_answers times_asked
counts_of ps = record {
  yes_le = length_keep (λ q. eqb q.0 1) ps;
  changes_le = changes_le ps;
  asked_le = mapped_le (times_asked ps) (length ps) (below 10) (λ v. length_keep (λ q. eqb (bit q.1 v) 1) ps);
}
