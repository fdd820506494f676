-- The recursion over the list of sets: what is known of those that are passed.
-- Assumes nothing.
use mathlib.Core.Path.{◌≡◌, refl, sym, ap, ◌∙◌}
use mathlib.Core.Logic.{◌≢◌, ◌⊎◌, inl, inr, ⊎_elim}
use mathlib.Core.List.{List, [], ◌∷◌, ◌++◌}
use Prim.Native.Nat.{ℕ, zero, suc, ◌+◌, ◌-◌, ◌*◌, ◌/◌, ◌^◌, ◌≤◌, ◌<◌}
use native.Mathlib.Decide.{ℕ_discrete}
use native.Mathlib.Nat.{le_refl, le_antisymm, eq-or-lt_of_le, sub-zero}
use native.Mathlib.Omega.{arith}
use lib.Bits.{bit_and, and_step, and_zero_l}
use lib.Count.{ones_in}
use lib.ListN.{length, get_or, set, take, drop, replicate, length-set, length-replicate, get_or-replicate}
use lib.Pow.{pow_mono, pow_pos}
use lib.Seq.{length-take-le, get_or-set_same, get_or-set_other}
use Rattle.rule.specs.Bits.{bit, set_bit}
use Rattle.rule.specs.Order.{in_places}
use Rattle.rule.specs.Sets.{set_size, sets, set_at, stretch, stretch_at}
use Rattle.theory.proofs.Bits.{bit-same, bit_other, clear_le, clear_lt}
use Rattle.theory.specs.Sets.{Follows}
use Rattle.theory.proofs.Search.{best_of, pick_of, picked, solved, dynamic_packs}
use Rattle.theory.proofs.Search as search
use Rattle.theory.proofs.Sets.{full_lt, having_exactly}
use Rattle.sets.specs.Sequence.{InSequence}
use Rattle.sets.specs.Post.{SetAt}
use Rattle.folding.specs.Codes.{Codes}
use Rattle.folding.proofs.Codes.{codes_table, codes_fold, count_is, rows_are}
use Rattle.stretches.specs.Stretch.{stretch_of, Starts, PartOf}
use Rattle.stretches.proofs.Stretches.{fits, written_length, written_own}
use Rattle.costing.specs.Ready.{Ready}
use Rattle.costing.specs.Choice.{node_weight, asking_cost, via, most_cost, Bounded}
use Rattle.costing.proofs.Ready.{ready_flag, ready_rest, ready_kept}
use Rattle.costing.proofs.Choices.{heavy, via_most}
use Rattle.solving.specs.Solves.{Solves}
use Rattle.searching.specs.Order.{Asks, Members, Followed, Searched}

-- what the search adds up for a flag
abbrev cost : ℕ → List ℕ → ℕ → ℕ → ℕ
cost n t = search.cost node_weight n t

-- ---- the sets passed

-- the empty set, and those at the places before i of the list
abbrev pub Done : ℕ → ℕ → Type 0
Done i S = (S ≡ 0) ⊎ ((j : ℕ) × (j < i) × (set_at j ≡ S))

-- one place more
done_next : (i T : ℕ) → Done (i + 1) T → Done i T ⊎ (set_at i ≡ T)
done_next i T (inl z) = inl (inl z)
done_next i T (inr (j, h, e)) =
    ⊎_elim (λ (q : j ≡ i). inr (ap set_at (sym q) ∙ e)) (λ (q : j < i). inl (inr (j, q, e))) (eq-or-lt_of_le (omega arith))

-- in the end all
done_all : InSequence sets → (S i : ℕ) → S < 1024 → 1024 ≤ i → Done i S
unfolding set_at
done_all q S i h l = let (j, k, e) = q.occurs S h in inr (j, omega arith, e)

-- a set whose flags are flags of another, as the list's own test says it
subset : (d x S : ℕ) → x < 2 ^ d → ((k : ℕ) → bit x k ≤ bit S k) → bit_and x S ≡ x
unfolding bit
subset zero x S h f = let e : x ≡ 0 = omega arith in ap (λ (z : ℕ). bit_and z S) e ∙ and_zero_l S ∙ sym e
subset (suc d) x S h f = omega (arith, and_step x S, f 0, subset d (x / 2) (S / 2) (omega arith) (λ k. f (suc k)))

clear_bit : (S v k : ℕ) → Dec (v ≡ k) → bit (set_bit S v 0) k ≤ bit S k
clear_bit S v k (yes e) = rw (← e, bit-same S v 0 (omega arith)) (omega arith)
clear_bit S v k (no d) = rw (bit_other S v k 0 (omega arith) d) (le_refl _)

-- a set's flags taken singly out of it leave sets that are passed
done_rest : (i S v : ℕ) → i < 1024 → SetAt i S → bit S v ≡ 1 → Done i (set_bit S v 0)
unfolding set_at
done_rest i S v h a b =
    let l = clear_le S v in
    let k = a.small in
    let e = sym a.is in
    let within : bit_and (set_bit S v 0) S ≡ set_bit S v 0 = subset 10 (set_bit S v 0) S (omega arith) (λ j. clear_bit S v j (ℕ_discrete v j)) in
    inr (a.sequence.subsets i (set_bit S v 0) h (omega arith) (rw e within) (λ q. omega (arith, clear_lt S v b)))

-- ---- what is known of them

module _ (n : ℕ) (t : List ℕ) where
  -- the least cost of a set, and the smallest flag that is asked first at that cost
  abbrev least_of : ℕ → ℕ
  least_of S = best_of (cost n t) n S

  abbrev first_of : ℕ → ℕ
  first_of S = pick_of (cost n t) n S

  -- the stretches, least costs and first flags of the sets before place i of the list, which is in sequence; the workspace was w₀ when the first was solved
  pub record Searching (w₀ w least first : List ℕ) (i : ℕ) : Type 0 where
    pub sequence : 0 < i → InSequence sets
    pub lent : length w ≡ length w₀
    pub room : 3 ^ n ≤ length w
    pub leasts : length least ≡ 1024
    pub firsts : length first ≡ 1024
    pub bounded : Bounded n least
    pub codes : (S : ℕ) → S < 2 ^ n → Done i S → Codes n t S (stretch_of n w S)
    pub least_is : (S : ℕ) → S < 2 ^ n → Done i S → get_or least S 0 ≡ least_of S
    pub first_is : (S : ℕ) → S < 2 ^ n → S ≢ 0 → Done i S → get_or first S 0 ≡ first_of S

-- sets of at most ten flags
sets-small : {n S : ℕ} → n ≤ 10 → S < 2 ^ n → S < 1024
sets-small {n} few h = omega (arith, pow_mono {i = n} {j = 10} few)

module _ (n : ℕ) (t : List ℕ) (few : n ≤ 10) (fit : length t ≡ 2 ^ n) where
  -- ---- at first: the table is the stretch of the empty set

  none_stretch : length t ≡ stretch n 0
  unfolding ones_in
  none_stretch = let e : n ≡ n - 0 = omega arith in fit ∙ ap (◌^◌ 2) e

  none_place : stretch_at n 0 ≡ 0
  unfolding stretch_at
  none_place = refl

  none_part : PartOf n 0 0 (length t)
  none_part =
      record {
        start_is = sym none_place;
        end_is = omega (arith, none_stretch, none_place);
        fits = omega (arith, none_stretch, none_place, fits n 0 few (pow_pos n));
      }

  pub table_within : length t ≤ 3 ^ n
  table_within = none_part.fits

  pub table_fits : (w : List ℕ) → 3 ^ n ≤ length w → length t ≡ length (take (length t - 0) w)
  table_fits w l = sym (ap (λ (k : ℕ). length (take k w)) (sub-zero (length t)) ∙ length-take-le (length t) w (omega (arith, table_within)))

  -- the workspace, once w, with the table at its front
  abbrev begun : List ℕ → List ℕ → List ℕ
  begun w ys = take 0 w ++ (ys ++ drop (length t - 0) (drop 0 w))

  pub begun_lent : (w : List ℕ) {ys : List ℕ} → 3 ^ n ≤ length w → ys ≡ t → length (begun w ys) ≡ length w
  begun_lent w {ys} l e = written_length w few (pow_pos n) l none_part ys (ap length e ∙ none_stretch)

  pub searching_none : (w : List ℕ) {ys : List ℕ} → 3 ^ n ≤ length w → ys ≡ t → Searching n t (begun w ys) (begun w ys) (replicate 1024 0) (replicate 1024 0) 0
  searching_none w {ys} l e =
      let k : length ys ≡ stretch n 0 = ap length e ∙ none_stretch in
      record {
        sequence = λ h. absurd (omega arith);
        lent = refl;
        room = omega (arith, begun_lent w l e);
        leasts = length-replicate {A = ℕ} 1024 0;
        firsts = length-replicate {A = ℕ} 1024 0;
        bounded = record { most = λ S h. omega (arith, get_or-replicate {A = ℕ} 1024 S 0 0 (sets-small few h)) };
        codes = λ S h d. ⊎_elim
            (λ (z : S ≡ 0). rw (z, written_own w few (pow_pos n) l none_part ys k, e) (codes_table n t fit))
            (λ (z : (j : ℕ) × (j < 0) × (set_at j ≡ S)). absurd (omega (arith, z.1)))
            d;
        least_is = λ S h d. ⊎_elim
            (λ (z : S ≡ 0). rw z (sym (solved (cost n t) n).none))
            (λ (z : (j : ℕ) × (j < 0) × (set_at j ≡ S)). absurd (omega (arith, z.1)))
            d;
        first_is = λ S h x d. ⊎_elim (λ (z : S ≡ 0). absurd (x z)) (λ (z : (j : ℕ) × (j < 0) × (set_at j ≡ S)). absurd (omega (arith, z.1))) d;
      }

  -- ---- a set that is solved

  module _ {w₀ w least first : List ℕ} {i S : ℕ} (s : Searching n t w₀ w least first i) (h : i < 1024) (a : SetAt i S) where
    pub ready : {starts : List ℕ} → Starts n starts → S ≢ 0 → S < length t → Ready n S starts w
    ready p d k = record { started = p; below = omega (arith, fit); some = d; lent = s.room }

    -- a set that is passed over: the empty one, or one with flags from n on
    pub searching_pass : (S ≡ 0) ⊎ (length t ≤ S) → Searching n t w₀ w least first (i + 1)
    searching_pass o =
        record {
          sequence = λ _. a.sequence;
          lent = s.lent;
          room = s.room;
          leasts = s.leasts;
          firsts = s.firsts;
          bounded = s.bounded;
          codes = λ T k d. s.codes T k (old T k (done_next i T d));
          least_is = λ T k d. s.least_is T k (old T k (done_next i T d));
          first_is = λ T k z d. s.first_is T k z (old T k (done_next i T d));
        }
      where
        old : (T : ℕ) → T < 2 ^ n → Done i T ⊎ (set_at i ≡ T) → Done i T
        old T k (inl d) = d
        old T k (inr q) = ⊎_elim (λ (z : S ≡ 0). inl (sym q ∙ sym a.is ∙ z)) (λ (z : length t ≤ S). absurd (omega (arith, fit, a.is))) o

    module _ {starts y least' first' : List ℕ} (g : Ready n S starts w) (x : Solves n S w least first y least' first') where
      rest_done : (u : ℕ) → bit S u ≡ 1 → Done i (set_bit S u 0)
      rest_done u b = done_rest i S u h a b

      rest_other : (u : ℕ) → bit S u ≡ 1 → set_bit S u 0 ≢ S
      rest_other u b q = omega (arith, clear_lt S u b)

      rest_codes : (u : ℕ) → bit S u ≡ 1 → Codes n t (set_bit S u 0) (stretch_of n w (set_bit S u 0))
      rest_codes u b = s.codes (set_bit S u 0) (ready_rest g u refl) (rest_done u b)

      -- its own stretch
      own_codes : Codes n t S (stretch_of n y S)
      own_codes =
          let u = x.lowest in
          codes_fold n t fit S u few g.below (ready_flag g u x.member) x.member (rest_codes u x.member) x.folded.folds

      -- the cost of asking u first
      via_is_cost : (u : ℕ) → bit S u ≡ 1 → via n y least S u ≡ search.via (cost n t) n S u
      unfolding via asking_cost search.via search.cost
      via_is_cost u b =
          let kept = x.folded.others (set_bit S u 0) (ready_rest g u refl) (rest_other u b) in
          let c : Codes n t (set_bit S u 0) (stretch_of n y (set_bit S u 0)) = rw kept (rest_codes u b) in
          omega (
            arith,
            s.least_is (set_bit S u 0) (ready_rest g u refl) (rest_done u b),
            count_is n t fit S u few g.below (ready_flag g u b) b c own_codes x.folded.folds.first,
            rows_are n t fit S u few g.below (ready_flag g u b) b c,
          )

      -- so the least of all flags is the least of the recursion, and its flag the picked one
      chosen : (x.cost ≡ least_of n t S) × (x.flag ≡ first_of n t S)
      chosen =
          let c = x.cheapest in
          let up : S ≤ 2 ^ n - 1 = omega (arith, g.below) in
          let (p, q) = picked (cost n t) n S x.flag up c.member in
          let (l, b) = (having_exactly 1 n S).sound (first_of n t S) p.member in
          let m = (having_exactly 1 n S).whole x.flag (c.within, c.member) in
          let is-cost = via_is_cost x.flag c.member in
          let d = via_is_cost (first_of n t S) b in
          let low = c.low (first_of n t S) l b in
          let up' = p.least x.flag m in
          let is : x.cost ≡ search.via (cost n t) n S (first_of n t S) = omega (arith, c.is) in (
            is ∙ sym q,
            le_antisymm (c.first (first_of n t S) l b (d ∙ sym is)) (p.first x.flag m (sym is-cost ∙ sym c.is ∙ is)),
          )

      own_place : S < length least
      own_place = omega (arith, s.leasts, sets-small few g.below)

      first_place : S < length first
      first_place = omega (arith, s.firsts, sets-small few g.below)

      cost_small : x.cost ≤ set_size S * most_cost
      cost_small = omega (arith, x.cheapest.is, via_most {w = y} (ready_kept g x.folded.lent) s.bounded x.flag x.cheapest.member)

      pub searching_more : Searching n t w₀ y least' first' (i + 1)
      searching_more =
          record {
            sequence = λ _. a.sequence;
            lent = x.folded.lent ∙ s.lent;
            room = omega (arith, x.folded.lent, s.room);
            leasts = ap length x.least_is ∙ length-set least S x.cost ∙ s.leasts;
            firsts = ap length x.first_is ∙ length-set first S x.flag ∙ s.firsts;
            bounded = record { most = λ T k. rw x.least_is (most_at T k (ℕ_discrete T S)) };
            codes = λ T k d. codes_at T k d (ℕ_discrete T S);
            least_is = λ T k d. rw x.least_is (least_at T k d (ℕ_discrete T S));
            first_is = λ T k z d. rw x.first_is (first_at T k z d (ℕ_discrete T S));
          }
        where
          old : (T : ℕ) → T ≢ S → Done i T ⊎ (set_at i ≡ T) → Done i T
          old T d (inl z) = z
          old T d (inr q) = absurd (d (sym q ∙ sym a.is))

          codes_at : (T : ℕ) → T < 2 ^ n → Done (i + 1) T → Dec (T ≡ S) → Codes n t T (stretch_of n y T)
          codes_at T k d (yes q) = rw q own_codes
          codes_at T k d (no q) = rw (x.folded.others T k q) (s.codes T k (old T q (done_next i T d)))

          least_at : (T : ℕ) → T < 2 ^ n → Done (i + 1) T → Dec (T ≡ S) → get_or (set least S x.cost) T 0 ≡ least_of n t T
          least_at T k d (yes q) = rw (q, get_or-set_same least S x.cost 0 own_place) chosen.0
          least_at T k d (no q) = get_or-set_other least S T x.cost 0 q ∙ s.least_is T k (old T q (done_next i T d))

          first_at : (T : ℕ) → T < 2 ^ n → T ≢ 0 → Done (i + 1) T → Dec (T ≡ S) → get_or (set first S x.flag) T 0 ≡ first_of n t T
          first_at T k z d (yes q) = rw (q, get_or-set_same first S x.flag 0 first_place) chosen.1
          first_at T k z d (no q) = get_or-set_other first S T x.flag 0 q ∙ s.first_is T k z (old T q (done_next i T d))

          most_at : (T : ℕ) → T < 2 ^ n → Dec (T ≡ S) → get_or (set least S x.cost) T 0 ≤ set_size T * most_cost
          most_at T k (yes q) = rw (q, get_or-set_same least S x.cost 0 own_place) cost_small
          most_at T k (no q) = rw (get_or-set_other least S T x.cost 0 q) (s.bounded.most T k)

  -- ---- at the end

  module _ {w₀ w least first : List ℕ} {i : ℕ} (s : Searching n t w₀ w least first i) (end : 1024 ≤ i) where
    first_all : (S : ℕ) → S < 2 ^ n → S ≢ 0 → get_or first S 0 ≡ first_of n t S
    first_all S h d = s.first_is S h d (done_all (s.sequence (omega arith)) S i (sets-small few h) end)

    pub members : Members n first
    members =
        record { few = few; is = λ S h d. ap (bit S) (first_all S h d) ∙ (solved (cost n t) n).member S (omega arith) d }

    follows : (S : ℕ) (o : List ℕ) → S < 2 ^ n → Asks first S o → Follows (pick_of (cost n t) n) S o
    follows S [] h f = f
    follows S (u ∷ o) h f = (f.0, f.1 ∙ first_all S h f.0, follows (set_bit S u 0) o (omega (arith, clear_le S u)) f.2)

    pub searched : {v places : List ℕ} → length w₀ ≡ length v → Followed n first places → Searched n t v places w
    searched l f =
        record {
          order = f.is
              ∙ ap in_places (dynamic_packs node_weight n t fit (heavy n few) (best_of (cost n t) n) (pick_of (cost n t) n) (solved (cost n t) n) f.order (follows (2 ^ n - 1) f.order (full_lt n) f.asks)).0;
          lent = s.lent ∙ l;
        }
