-- The laws of the index: the chain of one hash passes every first way that can have the codes looked for, and one way more is entered by a link and a head.
-- Assumes nothing.
use mathlib.Core.Path.{◌≡◌, refl, sym, ◌∙◌}
use mathlib.Core.Logic.{◌⊎◌, inl, inr, ⊎_elim}
use mathlib.Core.List.{List}
use Prim.Native.Nat.{ℕ, zero, suc, ◌+◌, ◌≤◌, ◌<◌}
use native.Mathlib.Nat.{eq-or-lt_of_le, le_refl}
use native.Mathlib.Decide.{ℕ_discrete}
use native.Mathlib.Omega.{arith}
use borrow.Author.Count.{below_more}
use lib.ListN.{get_or, set, replicate, length-set, length-replicate, get_or-replicate}
use lib.Seq.{get_or-set_same, get_or-set_other}
use Rattle.ways.specs.Ways.{code_at}
use Rattle.way_index.specs.Index.{Same, New, First, heads, links, hash, hash_at, Last, Indexed}

pub hash_lt : (low high : ℕ) → hash low high < heads
unfolding hash
hash_lt low high = omega arith

-- ---- ways with the same codes

module _ (s : List ℕ) (p : ℕ) where
  same? : (i j : ℕ) → Dec (Same s p i j)
  same? i j = go (ℕ_discrete (code_at s p i 0) (code_at s p j 0)) (ℕ_discrete (code_at s p i 1) (code_at s p j 1))
    where
      go : Dec (code_at s p i 0 ≡ code_at s p j 0) → Dec (code_at s p i 1 ≡ code_at s p j 1) → Dec (Same s p i j)
      go (yes a) (yes b) = yes (a, b)
      go (yes a) (no b) = no (λ e. b e.1)
      go (no a) b = no (λ e. a e.0)

  -- among the ways below k there is a first with the codes of i, or none has them
  search_below : (i k : ℕ) → ((r : ℕ) × (r < k) × Same s p r i × New s p r) ⊎ ((j : ℕ) → j < k → Same s p j i → ⊥)
  search_below i zero = inr (λ j h. absurd (omega arith))
  search_below i (suc k) = go (search_below i k) (same? k i)
    where
      go : ((r : ℕ) × (r < k) × Same s p r i × New s p r) ⊎ ((j : ℕ) → j < k → Same s p j i → ⊥) → Dec (Same s p k i)
          → ((r : ℕ) × (r < suc k) × Same s p r i × New s p r) ⊎ ((j : ℕ) → j < suc k → Same s p j i → ⊥)
      go (inl (r, h, e, f)) d = inl (r, omega arith, e, f)
      go (inr f) (yes e) = inl (k, le_refl _, e, λ j h q. f j h (q.0 ∙ e.0, q.1 ∙ e.1))
      go (inr f) (no d) = inr (λ j h q. ⊎_elim (λ (x : j ≡ k). d (rw x at q)) (λ (x : j < k). f j x q) (eq-or-lt_of_le (omega arith)))

  -- from way `at` on no first way has the codes of i, and the one before it has their hash
  pub record Searched (i at : ℕ) : Type 0 where
    pub within : at ≤ i
    pub hits : (j : ℕ) → at ≡ j + 1 → New s p j × (hash_at s p j ≡ hash_at s p i)
    pub above : (j : ℕ) → at ≤ j → j < i → New s p j → Same s p j i → ⊥

module _ {s : List ℕ} {p : ℕ} where
  -- ---- the index

  pub index_none : Indexed s p 0 (replicate (heads + links) 0)
  index_none =
      record {
        lent = length-replicate {A = ℕ} (heads + links) 0;
        head = λ h l.
            rw (get_or-replicate {A = ℕ} (heads + links) h 0 0 (omega arith))
            (record { within = omega arith; hits = λ j e. absurd (omega arith); above = λ j e g. absurd (omega arith) });
        link = λ k h. absurd (omega arith);
      }

  -- a way that is not new is passed over
  last_passed : {h i l : ℕ} → (New s p i → hash_at s p i ≡ h → ⊥) → Last s p h i l → Last s p h (i + 1) l
  last_passed {h} {i} d x =
      record {
        within = omega (arith, x.within);
        hits = x.hits;
        above = λ j a b f e.
            ⊎_elim (λ (q : j ≡ i). d (rw q at f) (rw q at e)) (λ (q : j < i). x.above j a q f e) (eq-or-lt_of_le (omega arith));
      }

  -- the index with way i entered
  module _ {i : ℕ} {index : List ℕ} (few : i < links) (new : New s p i) (x : Indexed s p i index) where
    abbrev linked : List ℕ
    linked = set index (heads + i) (get_or index (hash_at s p i) 0)

    abbrev entered : List ℕ
    entered = set linked (hash_at s p i) (i + 1)

    own_lt : hash_at s p i < heads
    own_lt = hash_lt _ _

    head_is : (h : ℕ) → h < heads → Dec (hash_at s p i ≡ h) → Last s p h (i + 1) (get_or entered h 0)
    head_is h l (yes e) =
        rw (
          ← e,
          get_or-set_same linked (hash_at s p i) (i + 1) 0 (omega (arith, own_lt, x.lent, length-set index (heads + i) (get_or index (hash_at s p i) 0))),
        )
        (record {
          within = omega arith;
          hits = λ j q. let k : j ≡ i = omega arith in rw k (new, refl);
          above = λ j a b. absurd (omega arith);
        })
    head_is h l (no d) =
        rw (
          get_or-set_other linked (hash_at s p i) h (i + 1) 0 (λ e. d (sym e)),
          get_or-set_other index (heads + i) h (get_or index (hash_at s p i) 0) 0 (omega arith),
        )
        (last_passed (λ f e. d e) (x.head h l))

    -- a link is no head
    link_is : (k : ℕ) → get_or entered (heads + k) 0 ≡ get_or linked (heads + k) 0
    link_is k = get_or-set_other linked (hash_at s p i) (heads + k) (i + 1) 0 (omega (arith, own_lt))

    index_more : Indexed s p (i + 1) entered
    index_more =
        record {
          lent = length-set linked (hash_at s p i) (i + 1) ∙ length-set index (heads + i) (get_or index (hash_at s p i) 0) ∙ x.lent;
          head = λ h l. head_is h l (ℕ_discrete (hash_at s p i) h);
          link = below_more (λ (k : ℕ). New s p k → Last s p (hash_at s p k) k (get_or entered (heads + k) 0)) i
              (λ k l f.
              rw (link_is k, get_or-set_other index (heads + i) (heads + k) (get_or index (hash_at s p i) 0) 0 (omega arith))
              (x.link k l f))
              (λ f.
              rw (link_is i, get_or-set_same index (heads + i) (get_or index (hash_at s p i) 0) 0 (omega (arith, x.lent)))
              (x.head (hash_at s p i) own_lt));
        }

  -- the same, of the hash and the codes that the code has in hand
  pub index_entered : {i h low high : ℕ} {index : List ℕ} → i < links → New s p i → Indexed s p i index → low ≡ code_at s p i 0 → high ≡ code_at s p i 1
      → h ≡ hash low high → Indexed s p (i + 1) (set (set index (heads + i) (get_or index h 0)) h (i + 1))
  index_entered few new x a b e = rw (e, a, b) (index_more few new x)

  -- ---- a search

  pub searched_none : {i at : ℕ} → Searched s p i at → at ≤ 0 → First s p i i
  searched_none {i} r e =
      record {
        within = le_refl i;
        same = (refl, refl);
        new = elim (search_below s p i i) [ inl (j, h, q, f) ↦ absurd (r.above j (omega arith) h f q) | inr f ↦ f ];
      }
