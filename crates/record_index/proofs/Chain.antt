-- The laws of the index: the chain of one hash passes every record that can be the one looked for, and one record more is entered by a link and a head.
-- Assumes nothing.
use mathlib.Core.Path.{◌≡◌, refl, sym, ap, ◌∙◌}
use mathlib.Core.Logic.{inl, ⊎_elim}
use mathlib.Core.List.{List}
use Prim.Native.Nat.{ℕ, zero, suc, ◌+◌, ◌*◌, ◌≤◌, ◌<◌}
use native.Mathlib.Nat.{eq-or-lt_of_le}
use native.Mathlib.Decide.{ℕ_discrete, dec_lt}
use native.Mathlib.Numerals.{add-one}
use native.Mathlib.Omega.{arith}
use borrow.Author.Count.{below_more}
use borrow.Author.Tests.{eq-eqb, ne_eqb}
use lib.ListN.{get_or, set, length-set, length-replicate}
use lib.Seq.{get_or-set_same, get_or-set_other}
use Rattle.rule.specs.Cells.{width, room, flag_at, low_at, high_at}
use Rattle.rule.proofs.Zeros.{zero_at}
use Rattle.cells.specs.Record.{put_record}
use Rattle.cells.proofs.Record.{put_else}
use Rattle.theory.proofs.Walks.{flag_kept, low_kept, high_kept}
use Rattle.record_index.specs.Index.{heads, links, hash, hash_at, last_with, empty_index, Indexed}
use Rattle.record_index.specs.Find.{Is}

-- ---- the last record with a hash

last_hit : (c : List ℕ) (h k : ℕ) → hash_at c k ≡ h → last_with c h (suc k) ≡ suc k
unfolding last_with
last_hit c h k e = rw (eq-eqb (hash_at c k) h e)

last_miss : (c : List ℕ) (h k : ℕ) → (hash_at c k ≡ h → ⊥) → last_with c h (suc k) ≡ last_with c h k
unfolding last_with
last_miss c h k d = rw (ne_eqb (hash_at c k) h d)

-- what it is: the number of a record below k with that hash, plus 1, or 0, and no record from it on has the hash
pub record Last (c : List ℕ) (h k l : ℕ) : Type 0 where
  pub within : l ≤ k
  pub hits : (j : ℕ) → l ≡ j + 1 → hash_at c j ≡ h
  pub above : (j : ℕ) → l ≤ j → j < k → hash_at c j ≡ h → ⊥

pub last : (c : List ℕ) (h k : ℕ) → Last c h k (last_with c h k)
unfolding last_with
last c h zero = record { within = omega arith; hits = λ j l. absurd (omega arith); above = λ j l g. absurd (omega arith) }
last c h (suc k) = go (ℕ_discrete (hash_at c k) h) (last c h k)
  where
    go : Dec (hash_at c k ≡ h) → Last c h k (last_with c h k) → Last c h (suc k) (last_with c h (suc k))
    go (yes e) x =
        rw (last_hit c h k e)
        (record { within = omega arith; hits = λ j l. let q : j ≡ k = omega arith in ap (hash_at c) q ∙ e; above = λ j l g. absurd (omega arith) })
    go (no d) x =
        rw (last_miss c h k d)
        (record {
          within = omega (arith, x.within);
          hits = x.hits;
          above = λ j l g e. ⊎_elim (λ (q : j ≡ k). d (ap (hash_at c) (sym q) ∙ e)) (λ (q : j < k). x.above j l q e) (eq-or-lt_of_le (omega arith));
        })

-- it goes by the records below k alone
pub last_same : (c d : List ℕ) (h k : ℕ) → ((j : ℕ) → j < k → hash_at c j ≡ hash_at d j) → last_with c h k ≡ last_with d h k
unfolding last_with
last_same c d h zero f = refl
last_same c d h (suc k) f =
    let e = f k (omega arith) in
    rw (e, last_same c d h k (λ j g. f j (omega arith)))

-- ---- the index

pub index_none : (c : List ℕ) → Indexed c 0 empty_index
unfolding last_with
index_none c =
    record { lent = length-replicate {A = ℕ} (heads + links) 0; head = λ h l. zero_at (heads + links) h; link = λ j h. absurd (omega arith) }

-- cells with the same used records have the same index
pub index_kept : {c d : List ℕ} {used : ℕ} {index : List ℕ} → ((j : ℕ) → j < used → hash_at c j ≡ hash_at d j) → Indexed c used index → Indexed d used index
index_kept {c} {d} {used} f x =
    record {
      lent = x.lent;
      head = λ h l. x.head h l ∙ last_same c d h used f;
      link = λ k l. x.link k l ∙ last_same c d (hash_at c k) k (λ j g. f j (omega arith)) ∙ ap (λ (h : ℕ). last_with d h k) (f k l);
    }

pub hash_lt : (flag low high : ℕ) → hash flag low high < heads
unfolding hash
hash_lt flag low high = omega arith

-- the index with record k entered
module _ {c index : List ℕ} {k : ℕ} (few : k < links) (x : Indexed c k index) where
  abbrev linked : List ℕ
  linked = set index (heads + k) (get_or index (hash_at c k) 0)

  abbrev entered : List ℕ
  entered = set linked (hash_at c k) (k + 1)

  own_lt : hash_at c k < heads
  own_lt = hash_lt (flag_at c k) (low_at c k) (high_at c k)

  head_is : (h : ℕ) → h < heads → Dec (hash_at c k ≡ h) → get_or entered h 0 ≡ last_with c h (suc k)
  head_is h l (yes e) =
      ap (λ (i : ℕ). get_or entered i 0) (sym e)
      ∙ get_or-set_same linked (hash_at c k) (k + 1) 0 (omega (arith, own_lt, x.lent, length-set index (heads + k) (get_or index (hash_at c k) 0)))
      ∙ add-one k
      ∙ sym (last_hit c h k e)
  head_is h l (no d) =
      get_or-set_other linked (hash_at c k) h (k + 1) 0 (λ e. d (sym e))
      ∙ get_or-set_other index (heads + k) h (get_or index (hash_at c k) 0) 0 (omega arith)
      ∙ x.head h l
      ∙ sym (last_miss c h k d)

  -- a link is no head
  link_is : (j : ℕ) → get_or entered (heads + j) 0 ≡ get_or linked (heads + j) 0
  link_is j = get_or-set_other linked (hash_at c k) (heads + j) (k + 1) 0 (omega (arith, own_lt))

  pub index_more : Indexed c (k + 1) entered
  index_more =
      record {
        lent = length-set linked (hash_at c k) (k + 1) ∙ length-set index (heads + k) (get_or index (hash_at c k) 0) ∙ x.lent;
        head = λ h l. head_is h l (ℕ_discrete (hash_at c k) h) ∙ ap (last_with c h) (sym (add-one k));
        link = below_more (λ (j : ℕ). get_or entered (heads + j) 0 ≡ last_with c (hash_at c j) j) k
            (λ j l. link_is j ∙ get_or-set_other index (heads + k) (heads + j) (get_or index (hash_at c k) 0) 0 (omega arith) ∙ x.link j l)
            (link_is k ∙ get_or-set_same index (heads + k) (get_or index (hash_at c k) 0) 0 (omega (arith, x.lent)) ∙ x.head (hash_at c k) own_lt);
      }

-- the same, of the hash and the fields that the code has in hand
pub index_entered : {c index : List ℕ} {k h flag low high : ℕ} → k < links → Indexed c k index → flag ≡ flag_at c k
    → low ≡ low_at c k → high ≡ high_at c k → h ≡ hash flag low high
    → Indexed c (k + 1) (set (set index (heads + k) (get_or index h 0)) h (k + 1))
index_entered few x f l g e = rw (e, f, l, g) (index_more few x)

-- a record put behind the used ones is to be entered in the index as it is
pub index_put : {c index : List ℕ} {used : ℕ} (flag low high : ℕ) → used < room c → Indexed c used index
    → Indexed (put_record c used flag low high) used index
index_put {c} {index} {used} flag low high space x =
    let put = put_record c used flag low high in
    let agree : (i : ℕ) → i < used * width → get_or c i 0 ≡ get_or put i 0 =
    λ i h. sym (put_else c used flag low high space i (inl h)) in
    index_kept
    (λ j h.
    rw (flag_kept c put used agree j h, low_kept c put used agree j h, high_kept c put used agree j h))
    x

-- ---- a search

-- from record `at` on none of the used records has this flag and these children, and the one before it has their hash
pub record Searched (c : List ℕ) (used flag low high at : ℕ) : Type 0 where
  pub within : at ≤ used
  pub hits : (j : ℕ) → at ≡ j + 1 → hash_at c j ≡ hash flag low high
  pub above : (k : ℕ) → at ≤ k → k < used → Is c k flag low high → ⊥

is_hash : {c : List ℕ} {k flag low high : ℕ} → Is c k flag low high → hash_at c k ≡ hash flag low high
is_hash i = rw (i.flag_is, i.low_is, i.high_is)

module _ {c : List ℕ} {used flag low high : ℕ} where
  -- a search that goes on from the last record below k with the hash
  searched : (k at : ℕ) → k ≤ used → ((j : ℕ) → k ≤ j → j < used → Is c j flag low high → ⊥) → at ≡ last_with c (hash flag low high) k
      → Searched c used flag low high at
  searched k at h f e =
      let x = last c (hash flag low high) k in
      rw e (record {
        within = omega (arith, x.within);
        hits = x.hits;
        above = λ j l g i. elim (dec_lt j k) [ yes q ↦ x.above j l q (is_hash i) | no q ↦ f j (omega arith) g i ];
      })

  pub searched_first : {index : List ℕ} {h : ℕ} → Indexed c used index → h ≡ hash flag low high → Searched c used flag low high (get_or index h 0)
  searched_first {index} x e =
      searched used _ (omega arith) (λ j l g. absurd (omega arith)) (ap (λ (i : ℕ). get_or index i 0) e ∙ x.head _ (hash_lt flag low high))

  pub searched_next : (at k next : ℕ) → Searched c used flag low high at → at ≡ k + 1 → (Is c k flag low high → ⊥) → next ≡ last_with c (hash_at c k) k
      → Searched c used flag low high next
  searched_next at k next s h d e =
      searched k next (omega (arith, s.within))
      (λ j l g i. ⊎_elim (λ (q : k ≡ j). d (rw q i)) (λ (q : k < j). s.above j (omega arith) g i) (eq-or-lt_of_le l))
      (e ∙ ap (λ (x : ℕ). last_with c x k) (s.hits k h))
