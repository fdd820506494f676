-- The rules of a table's nodes by their numbers (`rules_from` of crate rule): the two constants first, each rule once, behind its two cofactors by the flag that
-- it asks, and all in sequence.
-- Assumes nothing.
use mathlib.Core.Path.{◌≡◌, refl, sym, ap, ◌∙◌, subst}
use mathlib.Core.Logic.{◌⊎◌, inl, inr}
use mathlib.Core.Bool.{Bool, true, false, true≢false}
use mathlib.Core.List.{List, [], ◌∷◌, ◌++◌, append_assoc}
use Prim.Native.Nat.{ℕ, zero, suc, ◌+◌, ◌^◌, ◌≤◌, ◌<◌}
use native.Mathlib.Decide.{ℕ_discrete, dec_lt}
use native.Mathlib.Omega.{arith}
use lib.ListN.{length, get_or, replicate, length-append, length-replicate, get_or-replicate}
use lib.Pow.{pow_pos}
use Rattle.rule.specs.Bits.{bit, set_bit}
use Rattle.rule.specs.Table.{fit_rows, cofactor, depends, fixings, restrict}
use Rattle.rule.specs.Level.{level_nodes, nodes_from}
use Rattle.rule.specs.Order.{asked_before, level}
use Rattle.rule.specs.Sequence.{rises, sorted, place, branch_in, rises_in, rules_from, first_asked}
use Rattle.theory.proofs.Member.{In, head, tail, not-nil, cases_cons, eq_of_singleton, append_cases, append_left, append_right, perm-sym}
use Rattle.theory.proofs.Bits.{bit_lt, set_bit_lt}
use Rattle.theory.proofs.Perm.{Once, later, perm_in, perm_back, perm_length, perm_once, once_append}
use Rattle.theory.proofs.Least.{Pairwise, pairwise_append}
use Rattle.theory.proofs.Cofactor.{length-cofactor, cofactor_row, cofactor_own, cofactor_rows, row_lt, not-depends}
use Rattle.theory.proofs.Friedman.{Flags, branch, unbranch, fixings_swap, level_in, in_level, level_once}
use Rattle.theory.proofs.Sets.{Order}
use Rattle.theory.proofs.Levels.{Turn, asked_there, asked_exactly, level_lt}
use Rattle.theory.proofs.Nodes.{Lower, lower_next, fixings_free, Ignores}
use Rattle.theory.proofs.Walks.{rows_eq}
use Rattle.theory.proofs.Restrict.{restrict_all}
use Rattle.theory.proofs.Sequence.{Rises, rises_is}
use Rattle.theory.proofs.Sorting.{sorted_perm, sorted_pairwise}
use Rattle.theory.proofs.Place.{place_lt, place_left, place-right}

-- ---- constants

-- the two constant tables of k rows
abbrev pub ends : ℕ → List (List ℕ)
ends k = replicate k 0 ∷ replicate k 1 ∷ []

-- a constant's cofactors are itself
constant_own : (n v b a : ℕ) → v < n → b < 2 → cofactor v b (replicate (2 ^ n) a) ≡ replicate (2 ^ n) a
constant_own n v b a hv hb =
    let l = length-replicate (2 ^ n) a in
    rows_eq n (cofactor v b (replicate (2 ^ n) a)) (replicate (2 ^ n) a) (length-cofactor v b _ ∙ l) l
    (λ r h.
    cofactor_row v b (replicate (2 ^ n) a) r (omega arith)
    ∙ get_or-replicate (2 ^ n) (set_bit r v b) a 0 (set_bit_lt n r v b h hv hb)
    ∙ sym (get_or-replicate (2 ^ n) r a 0 h))

constant_free : (n v : ℕ) → v < n → {u : List ℕ} → In u (ends (2 ^ n)) → depends v u ≡ false
constant_free n v hv {u} m =
    elim (cases_cons m) [
      | inl e ↦ rw e (free 0)
      | inr k ↦ rw (eq_of_singleton k) (free 1)
    ]
  where
    free : (a : ℕ) → depends v (replicate (2 ^ n) a) ≡ false
    free a = not-depends v (replicate (2 ^ n) a) (constant_own n v 0 a hv (omega arith) ∙ sym (constant_own n v 1 a hv (omega arith)))

-- a rule that depends on none of the flags is restricted to itself
restrict_own : (vs : List ℕ) (row : ℕ) (u : List ℕ) → ((i : ℕ) → In i vs → depends i u ≡ false) → restrict vs row u ≡ u
unfolding restrict
restrict_own [] row u f = refl
restrict_own (v ∷ vs) row u f =
    rw (cofactor_own v (bit row v) u (bit_lt row v) (f v (head refl))) (restrict_own vs row u (λ i m. f i (tail m)))

-- a rule that depends on no flag is a constant
constant : (n : ℕ) {o : List ℕ} → Order n o → (u : List ℕ) → length u ≡ 2 ^ n → fit_rows u ≡ true → ((i : ℕ) → i < n → depends i u ≡ false)
    → In u (ends (2 ^ n))
constant n {o} p u l b f = go (get_or u 0 0) (row_lt u b 0) refl
  where
    all : (a : ℕ) → get_or u 0 0 ≡ a → u ≡ replicate (2 ^ n) a
    all a e =
        rows_eq n u (replicate (2 ^ n) a) l (length-replicate (2 ^ n) a)
        (λ r h.
        ap (λ (t : List ℕ). get_or t r 0) (sym (restrict_own o 0 u (λ i m. f i (p.sound i m))))
        ∙ restrict_all n o 0 u l p.sound p.whole (pow_pos n) r h
        ∙ e
        ∙ sym (get_or-replicate (2 ^ n) r a 0 h))

    go : (a : ℕ) → a < 2 → get_or u 0 0 ≡ a → In u (ends (2 ^ n))
    go zero h e = head (all 0 e)
    go (suc zero) h e = tail (head (all 1 e))
    go (suc (suc a)) h e = absurd (omega arith)

-- ---- fixings

-- a rule that arises by fixing flags is a fit table too
fixings_fit : (n : ℕ) (l t : List ℕ) → length t ≡ 2 ^ n → fit_rows t ≡ true → {u : List ℕ} → In u (fixings l t) → (length u ≡ 2 ^ n) × (fit_rows u ≡ true)
unfolding fixings
fixings_fit n [] t fit bits m = rw (eq_of_singleton m) (fit, bits)
fixings_fit n (i ∷ l) t fit bits m =
    let (b, _, k) = unbranch i l t m in
    fixings_fit n l (cofactor i b t) (length-cofactor i b t ∙ fit) (cofactor_rows i b t bits) k

-- its cofactor by a further flag arises by fixing that too
fixings-more : (n v b : ℕ) → v < n → b < 2 → (l t : List ℕ) → length t ≡ 2 ^ n → Flags n l → (In v l → ⊥) → {u : List ℕ} → In u (fixings l t)
    → In (cofactor v b u) (fixings (v ∷ l) t)
fixings-more n v b hv hb [] t fit f d m = branch v [] t b hb (unfold fixings in rw (eq_of_singleton (unfold fixings in m)) (head refl))
fixings-more n v b hv hb (i ∷ l) t fit f d {u} m =
    let (a, ha, k) = unbranch i l t m in
    let q = fixings-more n v b hv hb l (cofactor i a t) (length-cofactor i a t ∙ fit) (λ j x. f j (tail x)) (λ x. d (tail x)) k in
    fixings_swap n i v l t fit (f i (head refl)) hv (λ e. d (head (sym e))) (cofactor v b u) (branch i (v ∷ l) t a ha q)

-- ---- the flag that a rule asks

pub first_is : (v : ℕ) (u o : List ℕ) → In v o → depends v u ≡ true → ((i : ℕ) → In i (asked_before v o) → depends i u ≡ false) → first_asked o u ≡ v
unfolding first_asked
first_is v u [] m d f = absurd (not-nil m)
first_is v u (w ∷ o) m d f =
    elim (ℕ_discrete w v) [
      | yes e ↦ rw (ap (λ (x : ℕ). depends x u) e ∙ d) e
      | no q ↦
          let g : (i : ℕ) → In i (w ∷ asked_before v o) → depends i u ≡ false = rw (asked_there w v o q) at f in
          rw (g w (head refl)) (first_is v u o (later q m) d (λ i k. g i (tail k)))
    ]

-- ---- the rules by their numbers

-- the nodes of a level, in sequence: the rules that the definition puts behind those of the later levels
abbrev in_turn : List ℕ → ℕ → List ℕ → List ℕ → List (List ℕ)
in_turn before v vs t = sorted (rises_in (rules_from (v ∷ before) vs t) v) (level_nodes before v t)

turn_in : (before : List ℕ) (v : ℕ) (vs t : List ℕ) {u : List ℕ} → In u (in_turn before v vs t) → In u (fixings before t) × (depends v u ≡ true)
turn_in before v vs t {u} m = level_in before v t (perm_in (sorted_perm (rises_in (rules_from (v ∷ before) vs t) v) (level_nodes before v t)) u m)

in_turn_lem : (before : List ℕ) (v : ℕ) (vs t : List ℕ) {u : List ℕ} → In u (fixings before t) → depends v u ≡ true → In u (in_turn before v vs t)
in_turn_lem before v vs t {u} m d = perm_back (sorted_perm (rises_in (rules_from (v ∷ before) vs t) v) (level_nodes before v t)) u (in_level before v t m d)

-- first the constants, then as many as there are nodes
pub rules_start : (before vs t : List ℕ) → (us : List (List ℕ)) × (rules_from before vs t ≡ replicate (length t) 0 ∷ replicate (length t) 1 ∷ us)
unfolding rules_from
rules_start before [] t = ([], refl)
rules_start before (v ∷ vs) t =
    let (us, e) = rules_start (v ∷ before) vs t in
    (us ++ in_turn before v vs t, ap (λ (rs : List (List ℕ)). rs ++ in_turn before v vs t) e)

pub rules_length : (before vs t : List ℕ) → length (rules_from before vs t) ≡ length (nodes_from before vs t) + 2
unfolding rules_from nodes_from
rules_length before [] t = refl
rules_length before (v ∷ vs) t =
    let e = length-append (rules_from (v ∷ before) vs t) (in_turn before v vs t) in
    let f = length-append (level_nodes before v t) (nodes_from (v ∷ before) vs t) in
    let q = perm_length (sorted_perm (rises_in (rules_from (v ∷ before) vs t) v) (level_nodes before v t)) in
    e ∙ omega (arith, rules_length (v ∷ before) vs t)

-- a rule is a constant or a node
pub rules_in : (before vs t : List ℕ) {u : List ℕ} → In u (rules_from before vs t) → In u (ends (length t)) ⊎ In u (nodes_from before vs t)
unfolding rules_from nodes_from
rules_in before [] t m = inl m
rules_in before (v ∷ vs) t {u} m =
    elim (append_cases (rules_from (v ∷ before) vs t) m) [
      | inl k ↦
          elim (rules_in (v ∷ before) vs t k) [
            | inl i ↦ inl i
            | inr i ↦ inr (append_right (level_nodes before v t) i)
          ]
      | inr k ↦
          inr (append_left (nodes_from (v ∷ before) vs t)
          (perm_in (sorted_perm (rises_in (rules_from (v ∷ before) vs t) v) (level_nodes before v t)) u k))
    ]

-- rule u asks flag v, and stands behind its two cofactors there, where `rules` has the rules of all nodes by their numbers
pub record Asks (n : ℕ) (o : List ℕ) (rules : List (List ℕ)) (u : List ℕ) (v : ℕ) : Type 0 where
  pub flag : v < n
  pub asks : depends v u ≡ true
  pub ignores : Ignores n o (level o v) u
  pub rows : length u ≡ 2 ^ n
  pub held : (b : ℕ) → b < 2 → In (cofactor v b u) rules
  pub behind : (b : ℕ) → b < 2 → branch_in rules v b u < place u rules

-- so v is the flag of its record
pub asks_first : {n : ℕ} {o : List ℕ} → Order n o → {rules : List (List ℕ)} {u : List ℕ} {v : ℕ} → Asks n o rules u v → first_asked o u ≡ v
asks_first {o} p {u} {v} a =
    first_is v u o (p.whole v a.flag) a.asks (λ i m. let (h, k) = (asked_exactly p v).sound i m in a.ignores i h k)

-- a pair of numbers does not stand behind another
abbrev pub NotBehind : ℕ → ℕ → ℕ → ℕ → Type 0
NotBehind a b a' b' = (a < a') ⊎ ((a ≡ a') × (b ≤ b'))

-- nor does the record of a rule
abbrev pub Before : List ℕ → List (List ℕ) → List ℕ → List ℕ → Type 0
Before o rules u w =
    (level o (first_asked o w) < level o (first_asked o u))
    ⊎ ((first_asked o u ≡ first_asked o w)
    × NotBehind (branch_in rules (first_asked o u) 0 u) (branch_in rules (first_asked o u) 1 u) (branch_in rules (first_asked o w) 0 w) (branch_in rules (first_asked o w) 1 w))

-- the rules of a level that is put in sequence don't
turn_pairwise : (rules : List (List ℕ)) (v : ℕ) (us : List (List ℕ))
    → Pairwise (λ u w. NotBehind (branch_in rules v 0 u) (branch_in rules v 1 u) (branch_in rules v 0 w) (branch_in rules v 1 w)) (sorted (rises_in rules v) us)
turn_pairwise rules v us =
    sorted_pairwise (rises_in rules v)
    (λ u w. NotBehind (branch_in rules v 0 u) (branch_in rules v 1 u) (branch_in rules v 0 w) (branch_in rules v 1 w))
    (λ x y z. joins _ _ _ _ _ _)
    (λ x y e. is (branch_in rules v 0 x) _ _ _ (unfold rises_in in e))
    (λ x y e. is_not (branch_in rules v 0 x) _ _ _ (unfold rises_in in e))
    us
  where
    joins : (a b a' b' a'' b'' : ℕ) → NotBehind a b a' b' → NotBehind a' b' a'' b'' → NotBehind a b a'' b''
    joins a b a' b' a'' b'' (inl x) (inl y) = inl (omega arith)
    joins a b a' b' a'' b'' (inl x) (inr (e, y)) = inl (omega arith)
    joins a b a' b' a'' b'' (inr (e, x)) (inl y) = inl (omega arith)
    joins a b a' b' a'' b'' (inr (e, x)) (inr (f, y)) = inr (e ∙ f, omega arith)

    is : (a b a' b' : ℕ) → rises a b a' b' ≡ true → NotBehind a b a' b'
    is a b a' b' e = elim ((rises_is a b a' b').0 e) [ inl h ↦ inl h | inr (q, h) ↦ inr (q, omega arith) ]

    is_not : (a b a' b' : ℕ) → rises a' b' a b ≡ false → NotBehind a b a' b'
    is_not a b a' b' e =
        let n : Rises a' b' a b → ⊥ = λ h. true≢false (sym ((rises_is a' b' a b).1 h) ∙ e) in
        elim (dec_lt a a') [
          | yes h ↦ inl h
          | no h ↦
              elim (ℕ_discrete a' a) [
                | yes q ↦ inr (sym q, elim (dec_lt b' b) [ yes k ↦ absurd (n (inr (q, k))) | no k ↦ omega arith ])
                | no q ↦ absurd (n (inl (omega arith)))
              ]
        ]

-- what stands in one relation pairwise stands in another that follows from it for the members
pairwise_with : {A : Type 0} {R S : A → A → Type 0} (xs : List A) → ((x y : A) → In x xs → In y xs → R x y → S x y) → Pairwise R xs → Pairwise S xs
pairwise_with [] f p = tt
pairwise_with (x ∷ xs) f p = (λ y m. f x y (head refl) (tail m) (p.0 y m), pairwise_with xs (λ y z my mz. f y z (tail my) (tail mz)) p.1)

-- the flags vs stand in the order from level l on, all that there are, behind the flags `before`
pub record Rest (n : ℕ) (o before vs : List ℕ) (l : ℕ) : Type 0 where
  pub turn : Turn n o l vs
  pub lower : Lower n o l before
  pub whole : l + length vs ≡ n

rest_next : {n : ℕ} {o before vs : List ℕ} {v l : ℕ} → Order n o → Rest n o before (v ∷ vs) l → Rest n o (v ∷ before) vs (suc l)
rest_next {before} {v} {l} p r =
    record { turn = r.turn.2; lower = lower_next p l before v r.turn.0 r.turn.1 r.lower; whole = omega (arith, r.whole) }

module _ {n : ℕ} {o : List ℕ} (p : Order n o) (t : List ℕ) (fit : length t ≡ 2 ^ n) (bits : fit_rows t ≡ true) where
  lower_flags : {before vs : List ℕ} {l : ℕ} → Rest n o before vs l → Flags n before
  lower_flags r i m = (r.lower.sound i m).0

  -- none depends on a flag that was asked before
  rules_free : (v : ℕ) (vs before : List ℕ) (l : ℕ) → Rest n o before vs l → In v before → {u : List ℕ} → In u (rules_from before vs t) → depends v u ≡ false
  unfolding rules_from
  rules_free v [] before l r i {u} m = constant_free n v (lower_flags r v i) (subst (λ (k : ℕ). In u (ends k)) fit m)
  rules_free v (w ∷ vs) before l r i m =
      elim (append_cases (rules_from (w ∷ before) vs t) m) [
        | inl k ↦ rules_free v vs (w ∷ before) (suc l) (rest_next p r) (tail i) k
        | inr k ↦ fixings_free n v before t fit (lower_flags r) i (turn_in before w vs t k).0
      ]

  -- each stands once
  pub rules_once : (vs before : List ℕ) (l : ℕ) → Rest n o before vs l → Once (rules_from before vs t)
  unfolding rules_from
  rules_once [] before l r = (λ m. apart (eq_of_singleton m), (λ m. not-nil m, tt))
    where
      apart : replicate {A = ℕ} (length t) 0 ≡ replicate (length t) 1 → ⊥
      apart e =
          let h : 0 < length t = omega (arith, pow_pos n) in
          let q : ◌≡◌ {A = ℕ} 0 1 = sym (get_or-replicate (length t) 0 0 0 h) ∙ ap (λ (u : List ℕ). get_or u 0 0) e ∙ get_or-replicate (length t) 0 1 0 h in
          omega arith
  rules_once (v ∷ vs) before l r =
      once_append (rules_from (v ∷ before) vs t) (in_turn before v vs t) (rules_once vs (v ∷ before) (suc l) (rest_next p r))
      (perm_once (perm-sym (sorted_perm (rises_in (rules_from (v ∷ before) vs t) v) (level_nodes before v t))) (level_once before v t))
      (λ u i j. true≢false (sym (turn_in before v vs t j).1 ∙ rules_free v vs (v ∷ before) (suc l) (rest_next p r) (head refl) i))

  -- what arises by fixing the flags before is among them
  pub there : (vs before : List ℕ) (l : ℕ) → Rest n o before vs l → {u : List ℕ} → In u (fixings before t) → In u (rules_from before vs t)
  unfolding rules_from
  there [] before l r {u} m =
      let (a, b) = fixings_fit n before t fit bits m in
      subst (λ (k : ℕ). In u (ends k)) (sym fit)
      (constant n p u a b
      (λ i h. fixings_free n i before t fit (lower_flags r) (r.lower.whole i (h, omega (arith, level_lt p i h, r.whole))) m))
  there (v ∷ vs) before l r {u} m = go (depends v u) refl (λ k. there vs (v ∷ before) (suc l) (rest_next p r) k)
    where
      go : (b : Bool) → depends v u ≡ b → (In u (fixings (v ∷ before) t) → In u (rules_from (v ∷ before) vs t))
          → In u (rules_from (v ∷ before) vs t ++ in_turn before v vs t)
      go true e ih = append_right (rules_from (v ∷ before) vs t) (in_turn_lem before v vs t m e)
      go false e ih =
          append_left (in_turn before v vs t)
          (ih
          (subst (λ (x : List ℕ). In x (fixings (v ∷ before) t)) (cofactor_own v 0 u (omega arith) e)
          (fixings-more n v 0 r.turn.0 (omega arith) before t fit (lower_flags r)
          (λ i. omega (arith, (r.lower.sound v i).1, r.turn.1)) m)))

  module _ (rules : List (List ℕ)) where
    module _ {v l : ℕ} {before vs : List ℕ} (r : Rest n o before (v ∷ vs) l) (more : List (List ℕ))
        (is : rules ≡ rules_from (v ∷ before) vs t ++ (in_turn before v vs t ++ more)) {u : List ℕ} (m : In u (in_turn before v vs t)) where
      -- the cofactors of a level's rule stand among those of the later levels
      cofactor_later : (b : ℕ) → b < 2 → In (cofactor v b u) (rules_from (v ∷ before) vs t)
      cofactor_later b h =
          there vs (v ∷ before) (suc l) (rest_next p r)
          (fixings-more n v b r.turn.0 h before t fit (lower_flags r) (λ i. omega (arith, (r.lower.sound v i).1, r.turn.1)) (turn_in before v vs t m).0)

      branch_later : (b : ℕ) → b < 2 → branch_in rules v b u ≡ branch_in (rules_from (v ∷ before) vs t) v b u
      branch_later b h =
          ap (place (cofactor v b u)) is ∙ place_left (cofactor v b u) (rules_from (v ∷ before) vs t) (in_turn before v vs t ++ more) (cofactor_later b h)

      asks_here : Asks n o rules u v
      asks_here =
          let (f, d) = turn_in before v vs t m in
          let late = rules_from (v ∷ before) vs t in
          record {
            flag = r.turn.0;
            asks = d;
            ignores = λ i h k. fixings_free n i before t fit (lower_flags r) (r.lower.whole i (h, omega (arith, r.turn.1))) f;
            rows = (fixings_fit n before t fit bits f).0;
            held = λ b h. rw is (append_left (in_turn before v vs t ++ more) (cofactor_later b h));
            behind = λ b h.
                omega (
                  arith,
                  branch_later b h,
                  place_lt (cofactor v b u) late (cofactor_later b h),
                  ap (place u) is,
                  place-right u late (in_turn before v vs t ++ more) (λ i. true≢false (sym d ∙ rules_free v vs (v ∷ before) (suc l) (rest_next p r) (head refl) i)),
                );
          }

    -- a rule that is no constant asks a flag of the order
    pub rules_ask : (vs before : List ℕ) (l : ℕ) → Rest n o before vs l → (more : List (List ℕ)) → rules ≡ rules_from before vs t ++ more
        → {u : List ℕ} → In u (rules_from before vs t) → In u (ends (length t)) ⊎ ((v : ℕ) × (l ≤ level o v) × Asks n o rules u v)
    unfolding rules_from
    rules_ask [] before l r more is m = inl m
    rules_ask (v ∷ vs) before l r more is m =
        let e = is ∙ append_assoc (rules_from (v ∷ before) vs t) (in_turn before v vs t) more in
        elim (append_cases (rules_from (v ∷ before) vs t) m) [
          | inl k ↦
              elim (rules_ask vs (v ∷ before) (suc l) (rest_next p r) (in_turn before v vs t ++ more) e k) [
                | inl i ↦ inl i
                | inr (w, h, a) ↦ inr (w, omega arith, a)
              ]
          | inr k ↦ inr (v, omega (arith, r.turn.1), asks_here r more e k)
        ]

    -- and the rules stand in sequence
    pub rules_pairwise : (vs before : List ℕ) (l : ℕ) → Rest n o before vs l → (more : List (List ℕ)) → rules ≡ rules_from before vs t ++ more
        → Pairwise (λ u w. (In u (ends (length t)) → ⊥) → Before o rules u w) (rules_from before vs t)
    unfolding rules_from
    rules_pairwise [] before l r more is = (λ w m f. absurd (f (head refl)), (λ w m. absurd (not-nil m), tt))
    rules_pairwise (v ∷ vs) before l r more is =
        let e = is ∙ append_assoc (rules_from (v ∷ before) vs t) (in_turn before v vs t) more in
        pairwise_append (rules_from (v ∷ before) vs t) (in_turn before v vs t)
        (rules_pairwise vs (v ∷ before) (suc l) (rest_next p r) (in_turn before v vs t ++ more) e)
        (pairwise_with (in_turn before v vs t)
        (λ u w mu mw q f.
        let a = asks_first p (asks_here r more e mu) in
        let b = asks_first p (asks_here r more e mw) in
        inr (
          a ∙ sym b,
          rw (a, b, branch_later r more e mu 0 (omega arith), branch_later r more e mu 1 (omega arith), branch_later r more e mw 0 (omega arith), branch_later r more e mw 1 (omega arith))
              q,
        ))
        (turn_pairwise (rules_from (v ∷ before) vs t) v (level_nodes before v t)))
        (λ u w mu mw f.
        elim (rules_ask vs (v ∷ before) (suc l) (rest_next p r) (in_turn before v vs t ++ more) e mu) [
          | inl i ↦ absurd (f i)
          | inr (x, h, a) ↦
              inl (omega (arith, r.turn.1, ap (level o) (asks_first p a), ap (level o) (asks_first p (asks_here r more e mw))))
        ])
