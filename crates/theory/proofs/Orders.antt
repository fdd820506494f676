-- The enumerated orders are the orders, in dictionary order; `packed` is the packed one; and orders in their ten places.
-- Assumes nothing.
use mathlib.Core.Path.{◌≡◌, refl, sym, ap, ◌∙◌, subst}
use mathlib.Core.Logic.{inl, inr, ◌↔◌}
use mathlib.Core.Bool.{true}
use mathlib.Core.List.{List, [], ◌∷◌, ◌++◌, map, append_assoc}
use Prim.Native.Nat.{ℕ, zero, suc, ◌+◌, ◌-◌, ◌≤◌, ◌<◌}
use native.Mathlib.Nat.{suc_inj}
use native.Mathlib.Omega.{arith}
use lib.Dec.{eqb}
use lib.ListN.{length, get_or, take, drop, replicate, length-take, length-drop, length-append, length-replicate, get_or-replicate, replicate-append-replicate}
use lib.Seq.{take_at, get_or-append-add, get_or-drop}
use borrow.Author.Tests.{eqb-true, eq-eqb}
use Rattle.rule.specs.Bits.{below}
use Rattle.rule.specs.Level.{size, asked_total}
use Rattle.rule.specs.Tests.{keep}
use Rattle.rule.specs.Order.{places, flags, times, each_once, rest_zero, fit_order, Lex, in_places, rising, picks, gather, orders_of, orders, least_of, all_at, all_least, smallest, packed}
use Rattle.theory.proofs.Member.{In, head, tail, not-nil, cases_cons, append_cases, eq_of_singleton, cast, append_left, append_right, in_map, map-in, Perm, cons, swap, trans, perm-refl}
use Rattle.theory.proofs.Bits.{length_from, below_in, in_below}
use Rattle.theory.proofs.Tests.{and_split, and_join, each_in, each_at, at_each, below_each, keep_in, in_keep}
use Rattle.theory.proofs.Perm.{Once, Within, Exactly, exactly_iff, later, perm_in, perm_back, perm_length, perm_once, perm_of_length, once_set, once_keep, once_from}
use Rattle.theory.proofs.Least.{Pairwise, pairwise_map, pairwise_append, pairwise_keep, Rising, rising-from, IsFirst, first_of_lem, first_least_lem}
use Rattle.theory.proofs.Dynamic.{lex_refl, lex_trans}
use Rattle.theory.proofs.Sets.{Order}
use Rattle.theory.proofs.Packed.{IsPacked}

-- ---- one flag taken out of a list

abbrev Pick : Type 0
Pick = ℕ × List ℕ

-- the same taken out of a longer list: its first flag is left
abbrev leaving : ℕ → Pick → Pick
leaving v p = (p.0, v ∷ p.1)

module _ {v : ℕ} {vs : List ℕ} (P : Pick → Type 0) (first : P (v, vs)) (rest : (p : Pick) → In p (picks vs) → P (leaving v p)) where
  pick_cases : (p : Pick) → In p (picks (v ∷ vs)) → P p
  unfolding picks
  pick_cases p m =
      elim (cases_cons m) [
        | inl e ↦ rw e first
        | inr k ↦ let (q, mq, e) = map-in (leaving v) (picks vs) k in subst P e (rest q mq)
      ]

-- a pick has the list's flags, in another sequence
picks_perm : (vs : List ℕ) (p : Pick) → In p (picks vs) → Perm vs (p.0 ∷ p.1)
unfolding picks
picks_perm [] p m = absurd (not-nil m)
picks_perm (v ∷ vs) p m =
    pick_cases (λ (p : Pick). Perm (v ∷ vs) (p.0 ∷ p.1)) (perm-refl (v ∷ vs))
    (λ q mq. trans (cons refl (picks_perm vs q mq)) (swap refl refl)) p m

picks-rising : (vs : List ℕ) → Rising vs → (p : Pick) → In p (picks vs) → Rising p.1
unfolding picks
picks-rising [] r p m = absurd (not-nil m)
picks-rising (v ∷ vs) r p m =
    pick_cases (λ (p : Pick). Rising p.1) r.1
    (λ q mq. (λ u k. r.0 u (perm_back (picks_perm vs q mq) u (tail k)), picks-rising vs r.1 q mq)) p m

picks_has : (v : ℕ) (vs : List ℕ) → In v vs → (p : Pick) × In p (picks vs) × (p.0 ≡ v)
unfolding picks
picks_has v vs (head {x = u} {xs = us} e) = ((u, us), head refl, sym e)
picks_has v vs (tail {x = u} {xs = us} m) =
    let (p, mp, e) = picks_has v us m in
    (leaving u p, tail (in_map (leaving u) mp), e)

-- the flags that are taken out rise
abbrev Heads : List Pick → Type 0
Heads ps = Pairwise (λ (p q : Pick). p.0 < q.0) ps

picks-heads : (vs : List ℕ) → Rising vs → Heads (picks vs)
unfolding picks
picks-heads [] r = tt
picks-heads (v ∷ vs) r = (
  λ q m.
      let (p, mp, e) = map-in (leaving v) (picks vs) m in
      subst (λ (x : Pick). v < x.0) e (r.0 p.0 (perm_back (picks_perm vs p mp) p.0 (head refl))),
  pairwise_map (leaving v) (picks vs) (λ p q h. h) (picks-heads vs r.1),
)

-- ---- the enumerated orders are those that list each flag once

module _ (f : Pick → List (List ℕ)) {o : List ℕ} where
  gather_in : (ps : List Pick) → In o (gather f ps) → (p : Pick) × In p ps × In o (f p)
  unfolding gather
  gather_in [] m = absurd (not-nil m)
  gather_in (p ∷ ps) m =
      elim (append_cases (f p) m) [
        | inl k ↦ (p, head refl, k)
        | inr k ↦ let (q, mq, mo) = gather_in ps k in (q, tail mq, mo)
      ]

  in_gather : (ps : List Pick) (p : Pick) → In p ps → In o (f p) → In o (gather f ps)
  unfolding gather
  in_gather [] p m k = absurd (not-nil m)
  in_gather (q ∷ ps) p m k =
      elim (cases_cons m) [
        | inl e ↦ append_left (gather f ps) (subst (λ (x : Pick). In o (f x)) e k)
        | inr h ↦ append_right (f q) (in_gather ps p h k)
      ]

-- the orders that begin with the flag that is taken out
abbrev begin : ℕ → Pick → List (List ℕ)
begin k p = map (◌∷◌ p.0) (orders_of k p.1)

orders-sound : (k : ℕ) (vs : List ℕ) → Once vs → length vs ≡ k → (o : List ℕ) → In o (orders_of k vs) → Exactly (λ (i : ℕ). In i vs) o
unfolding orders_of
orders-sound zero [] u l o m = rw (eq_of_singleton m) (record { once = tt; sound = λ i h. h; whole = λ i h. h })
orders-sound zero (v ∷ vs) u l o m = absurd (omega arith)
orders-sound (suc k) vs u l o m =
    let (p, mp, mo) = gather_in (begin k) (picks vs) m in
    let (r, mr, e) = map-in (◌∷◌ p.0) (orders_of k p.1) mo in
    let q = picks_perm vs p mp in
    let u' = perm_once q u in
    let s = orders-sound k p.1 u'.1 (suc_inj (sym (perm_length q) ∙ l)) r mr in
    rw (← e)
    (record {
      once = (λ h. u'.0 (s.sound p.0 h), s.once);
      sound = λ i h. perm_back q i (elim (cases_cons h) [ inl e ↦ head e | inr k ↦ tail (s.sound i k) ]);
      whole = λ i h. elim (cases_cons (perm_in q i h)) [ inl e ↦ head e | inr k ↦ tail (s.whole i k) ];
    })

orders_whole : (k : ℕ) (vs : List ℕ) → Once vs → length vs ≡ k → (o : List ℕ) → Exactly (λ (i : ℕ). In i vs) o → In o (orders_of k vs)
unfolding orders_of
orders_whole zero [] u l [] s = head refl
orders_whole zero [] u l (v ∷ o) s = absurd (not-nil (s.sound v (head refl)))
orders_whole zero (v ∷ vs) u l o s = absurd (omega arith)
orders_whole (suc k) [] u l [] s = absurd (omega arith)
orders_whole (suc k) (v ∷ vs) u l [] s = absurd (not-nil (s.whole v (head refl)))
orders_whole (suc k) vs u l (v ∷ o) s =
    let (p, mp, e) = picks_has v vs (s.sound v (head refl)) in
    let q = picks_perm vs p mp in
    let u' = perm_once q u in
    let s' : Exactly (λ (i : ℕ). In i p.1) o =
    record {
      once = s.once.1;
      sound = λ i h. later (λ e'. s.once.0 (cast (sym e ∙ e') h)) (perm_in q i (s.sound i (tail h)));
      whole = λ i h. later (λ e'. u'.0 (cast (e ∙ e') h)) (s.whole i (perm_back q i (tail h)));
    } in
    in_gather (begin k) (picks vs) p mp
    (cast (ap {B = List ℕ} (λ (x : ℕ). x ∷ o) (sym e)) (in_map (◌∷◌ p.0) (orders_whole k p.1 u'.1 (suc_inj (sym (perm_length q) ∙ l)) o s')))

-- ---- in dictionary order

abbrev Sorted : List (List ℕ) → Type 0
Sorted os = Pairwise Lex os

gather_sorted : (k : ℕ) (ps : List Pick) → Heads ps → ((p : Pick) → In p ps → Sorted (orders_of k p.1)) → Sorted (gather (begin k) ps)
unfolding gather
gather_sorted k [] h s = tt
gather_sorted k (p ∷ ps) h s =
    pairwise_append (begin k p) (gather (begin k) ps)
    (pairwise_map (◌∷◌ p.0) (orders_of k p.1) (λ o q l. inr (refl, l)) (s p (head refl)))
    (gather_sorted k ps h.1 (λ q m. s q (tail m)))
    (λ x y mx my.
    let (a, ma, ea) = map-in (◌∷◌ p.0) (orders_of k p.1) mx in
    let (q, mq, my') = gather_in (begin k) ps my in
    let (b, mb, eb) = map-in (◌∷◌ q.0) (orders_of k q.1) my' in
    rw (← ea, ← eb) (inl (h.0 q mq)))

orders_sorted : (k : ℕ) (vs : List ℕ) → Rising vs → Sorted (orders_of k vs)
unfolding orders_of
orders_sorted zero vs r = (λ p m. absurd (not-nil m), tt)
orders_sorted (suc k) vs r = gather_sorted k (picks vs) (picks-heads vs r) (λ p m. orders_sorted k p.1 (picks-rising vs r p m))

-- ---- the packed order

-- the enumerated orders are the orders
pub orders_are : (n : ℕ) (o : List ℕ) → In o (orders n) ↔ Order n o
orders_are n o = (
  λ m. exactly_iff (λ i k. below_in k) (λ i h. in_below h) (orders-sound n (below n) (once_from 0 n) (length_from 0 n) o m),
  λ p. orders_whole n (below n) (once_from 0 n) (length_from 0 n) o (exactly_iff (λ i h. in_below h) (λ i k. below_in k) p),
)

-- the flags by their numbers are one
below_order : (n : ℕ) → Order n (below n)
below_order n = record { once = once_from 0 n; sound = λ i m. below_in m; whole = λ i h. in_below h }

module _ (cost : List ℕ → ℕ) where
  -- the first that costs least, of a list that has a member
  least_of_lem : (os : List (List ℕ)) → Sorted os → {o : List ℕ} → In o os → IsFirst cost Lex os (least_of cost os)
  unfolding least_of
  least_of_lem [] s m = absurd (not-nil m)
  least_of_lem (o ∷ os) s m = rw (first_least_lem cost o os) (first_of_lem cost Lex lex_refl lex_trans o os s)

  -- `all_least` has just the members that cost as much as it, in their sequence
  all_least_in : (os : List (List ℕ)) {o : List ℕ} → In o (all_least cost os) → In o os × (cost o ≡ cost (least_of cost os))
  unfolding all_least all_at
  all_least_in os {o} m =
      let (k, e) = keep_in (λ o. eqb (cost o) (cost (least_of cost os))) os m in
      (k, eqb-true (cost o) (cost (least_of cost os)) e)

  in_all_least : (os : List (List ℕ)) {o : List ℕ} → In o os → cost o ≡ cost (least_of cost os) → In o (all_least cost os)
  unfolding all_least all_at
  in_all_least os {o} m e = in_keep (λ o. eqb (cost o) (cost (least_of cost os))) os m (eq-eqb (cost o) (cost (least_of cost os)) e)

  all_least_sorted : (os : List (List ℕ)) → Sorted os → Sorted (all_least cost os)
  unfolding all_least all_at
  all_least_sorted os s = pairwise_keep Lex (λ o. eqb (cost o) (cost (least_of cost os))) os s

-- the definition gives the packed order
pub packed_is : (n : ℕ) (t : List ℕ) → IsPacked n t (packed n t)
unfolding packed smallest
packed_is n t =
    let s : Sorted (orders n) = orders_sorted n (below n) (rising-from 0 n) in
    let a = least_of_lem nodes (orders n) s ((orders_are n (below n)).1 (below_order n)) in
    let b = least_of_lem asked (all_least nodes (orders n)) (all_least_sorted nodes (orders n) s) (in_all_least nodes (orders n) a.member refl) in
    let (m, e) = all_least_in nodes (orders n) b.member in
    record {
      order = (orders_are n _).0 m;
      fewest = λ p q. omega (arith, e, a.least p ((orders_are n p).1 q));
      least = λ p q z. b.least p (in_all_least nodes (orders n) ((orders_are n p).1 q) (z ∙ e));
      first = λ p q z y. b.first p (in_all_least nodes (orders n) ((orders_are n p).1 q) (z ∙ e)) y;
    }
  where
    nodes : List ℕ → ℕ
    nodes o = size o t

    asked : List ℕ → ℕ
    asked o = asked_total o t

-- ---- orders in their ten places

-- an order of n flags has n
pub order_length : (n : ℕ) (o : List ℕ) → Order n o → length o ≡ n
order_length n o p =
    once_set o (below n) p.once (once_from 0 n) (λ i m. in_below (p.sound i m)) (λ i m. p.whole i (below_in m)) ∙ length_from 0 n

-- what stands once in a list is a member, and a member of a list without repeats stands there once
times_in : (v : ℕ) (l : List ℕ) → times v l ≡ 1 → In v l
unfolding times
times_in v l e = go (keep (eqb v) l) e (λ u m. keep_in (eqb v) l m)
  where
    go : (us : List ℕ) → length us ≡ 1 → ((u : ℕ) → In u us → In u l × (eqb v u ≡ true)) → In v l
    go [] q f = absurd (omega arith)
    go (u ∷ us) q f = let k = f u (head refl) in cast (eqb-true v u k.1) k.0

in_times : (v : ℕ) (l : List ℕ) → Once l → In v l → times v l ≡ 1
unfolding times
in_times v l o m =
    once_set (keep (eqb v) l) (v ∷ []) (once_keep (eqb v) l o) (not-nil, tt)
    (λ u k. head (sym (eqb-true v u (keep_in (eqb v) l k).1)))
    (λ u k. let e = eq_of_singleton k in in_keep (eqb v) l (cast e m) (eq-eqb v u (sym e)))

-- ten places that name each flag once have an order at their front
each_once_order : (n : ℕ) (o : List ℕ) → each_once n o ≡ true → Order n (flags n o)
unfolding each_once
each_once_order n o e =
    let w : Within (below n) (flags n o) =
    λ i m. times_in i (flags n o) (eqb-true (times i (flags n o)) 1 (each_in (λ (v : ℕ). eqb (times v (flags n o)) 1) (below n) e m)) in
    let p = perm_of_length (below n) (flags n o) (once_from 0 n) w (omega (arith, length-take n o, length_from 0 n)) in
    record { once = perm_once p (once_from 0 n); sound = λ i m. below_in (perm_back p i m); whole = λ i k. w i (in_below k) }

order_each_once : (n : ℕ) (o : List ℕ) → Order n (flags n o) → each_once n o ≡ true
unfolding each_once
order_each_once n o p =
    below_each (λ (v : ℕ). eqb (times v (flags n o)) 1) n (λ i h. eq-eqb (times i (flags n o)) 1 (in_times i (flags n o) p.once (p.whole i h)))

rest_zero_at : (n : ℕ) (o : List ℕ) → rest_zero n o ≡ true → (i : ℕ) → n ≤ i → get_or o i 0 ≡ 0
unfolding rest_zero
rest_zero_at n o e i h =
    let k = eqb-true 0 (get_or (drop n o) (i - n) 0) (each_at (eqb 0) (drop n o) 0 e refl (i - n)) in
    let q : n + (i - n) ≡ i = omega arith in
    sym (k ∙ get_or-drop n o (i - n) 0 ∙ ap (λ (x : ℕ). get_or o x 0) q)

at_rest_zero : (n : ℕ) (o : List ℕ) → ((i : ℕ) → n ≤ i → i < length o → get_or o i 0 ≡ 0) → rest_zero n o ≡ true
unfolding rest_zero
at_rest_zero n o z =
    at_each (eqb 0) (drop n o) 0
    (λ k h. eq-eqb 0 (get_or (drop n o) k 0) (sym (get_or-drop n o k 0 ∙ z (n + k) (omega arith) (omega (arith, length-drop n o)))))

-- an order is fit exactly when it lists each flag below n once, and its places from n on are 0
pub fit_order_is : (n : ℕ) (o : List ℕ) → fit_order n o ≡ true → Order n (flags n o)
unfolding fit_order
fit_order_is n o e = each_once_order n o (and_split (each_once n o) (rest_zero n o) e).0

pub fit_order_rest : (n : ℕ) (o : List ℕ) → fit_order n o ≡ true → (i : ℕ) → n ≤ i → get_or o i 0 ≡ 0
unfolding fit_order
fit_order_rest n o e = rest_zero_at n o (and_split (each_once n o) (rest_zero n o) e).1

pub is_fit_order : (n : ℕ) (o : List ℕ) → Order n (flags n o) → ((i : ℕ) → n ≤ i → i < length o → get_or o i 0 ≡ 0) → fit_order n o ≡ true
unfolding fit_order
is_fit_order n o p z = and_join (order_each_once n o p) (at_rest_zero n o z)

-- up to ten flags in their ten places
pub in_places-length : (o : List ℕ) → length (in_places o) ≡ places
in_places-length o = simp (length-take, length-append, length-replicate) (omega arith)

-- and what a refusal hands back in place of them
zeros : (l : List ℕ) → map {B = ℕ} (λ v. 0) l ≡ replicate (length l) 0
zeros [] = refl
zeros (x ∷ l) = ap {B = List ℕ} (λ m. 0 ∷ m) (zeros l)

pub zero-places : (o : List ℕ) → map {B = ℕ} (λ v. 0) (in_places o) ≡ replicate 10 0
zero-places o = zeros (in_places o) ∙ ap (λ (k : ℕ). replicate {A = ℕ} k 0) (in_places-length o)

pub in_places_is : (o : List ℕ) → length o ≤ 10 → in_places o ≡ o ++ replicate (10 - length o) 0
in_places_is o h =
    let k = length o in
    let q : 10 ≡ 10 - k + k = omega arith in
    let e : replicate {A = ℕ} 10 0 ≡ replicate (10 - k) 0 ++ replicate k 0 =
    ap (λ (j : ℕ). replicate {A = ℕ} j 0) q ∙ sym (replicate-append-replicate (10 - k) k 0) in
    ap (λ (l : List ℕ). take 10 (o ++ l)) e
    ∙ ap (take 10) (sym (append_assoc o (replicate (10 - k) 0) (replicate k 0)))
    ∙ take_at (o ++ replicate (10 - k) 0) (replicate k 0) 10 (simp (length-append, length-replicate) (omega arith))

-- an order in its ten places
module _ (n : ℕ) (o : List ℕ) (h : n ≤ 10) (p : Order n o) where
  places_are : in_places o ≡ o ++ replicate (10 - n) 0
  places_are = rw (← order_length n o p) (in_places_is o (omega (arith, order_length n o p)))

  pub flags_in_places : flags n (in_places o) ≡ o
  flags_in_places = ap (take n) places_are ∙ take_at o (replicate (10 - n) 0) n (order_length n o p)

  pub in_places_fit : fit_order n (in_places o) ≡ true
  in_places_fit =
      is_fit_order n (in_places o) (rw flags_in_places p)
      (λ i l k.
      let b : i - n < 10 - n = omega (arith, length-take 10 (o ++ replicate 10 0)) in
      let q : i ≡ length o + (i - n) = omega (arith, order_length n o p) in
      ap (λ (x : List ℕ). get_or x i 0) places_are
      ∙ ap (λ (x : ℕ). get_or (o ++ replicate (10 - n) 0) x 0) q
      ∙ get_or-append-add o (replicate (10 - n) 0) (i - n) 0
      ∙ get_or-replicate (10 - n) (i - n) 0 0 b)

-- the rising order in its ten places
pub rising_fit : (n : ℕ) → n ≤ 10 → fit_order n (rising n) ≡ true
rising_fit n h = in_places_fit n (below n) h (below_order n)

pub rising-flags : (n : ℕ) → n ≤ 10 → flags n (rising n) ≡ below n
rising-flags n h = flags_in_places n (below n) h (below_order n)

-- the packed order in its ten places
module _ (n : ℕ) (t : List ℕ) (h : n ≤ 10) where
  pub packed_flags : flags n (in_places (packed n t)) ≡ packed n t
  packed_flags = flags_in_places n (packed n t) h (packed_is n t).order

  pub packed_fit : fit_order n (in_places (packed n t)) ≡ true
  packed_fit = in_places_fit n (packed n t) h (packed_is n t).order
