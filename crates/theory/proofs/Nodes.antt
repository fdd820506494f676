-- The nodes of a rule's diagram under an order, level by level: each stands once, since it depends on its own flag and a node of a later level does not, and
-- those of a cofactor by the first flag are among them.
-- Assumes nothing.
use mathlib.Core.Path.{◌≡◌, refl, sym, ap, ◌∙◌, subst}
use mathlib.Core.Logic.{inl, inr, ◌↔◌}
use mathlib.Core.Bool.{true, false, true≢false}
use mathlib.Core.List.{List, [], ◌∷◌}
use Prim.Native.Nat.{ℕ, suc, ◌+◌, ◌^◌, ◌<◌}
use native.Mathlib.Nat.{eq-or-lt_of_le, le_of_suc-le-suc}
use native.Mathlib.Decide.{ℕ_discrete, dec_lt}
use native.Mathlib.Omega.{arith}
use lib.ListN.{length}
use Rattle.rule.specs.Table.{cofactor, depends, fixings}
use Rattle.rule.specs.Level.{level_nodes, nodes_from, nodes_of}
use Rattle.rule.specs.Order.{asked_before, level}
use Rattle.theory.proofs.Member.{In, head, tail, not-nil, cases_cons, eq_of_singleton, append_cases, append_left, append_right}
use Rattle.theory.proofs.Perm.{Once, Within, Exactly, later, once_append}
use Rattle.theory.proofs.Cofactor.{length-cofactor, cofactor_comm, cofactor_twice, cofactor_own, cofactor_free, cofactor_keeps}
use Rattle.theory.proofs.Friedman.{Flags, branch, unbranch, level_in, in_level, level_once, friedman_nodes}
use Rattle.theory.proofs.Sets.{Order}
use Rattle.theory.proofs.Levels.{Turn, level_one, asked_exactly, whole_turn}

-- ---- the nodes of an order, level by level

-- `before` lists once each flag below level l
abbrev pub Lower : ℕ → List ℕ → ℕ → List ℕ → Type 0
Lower n o l before = Exactly (λ (i : ℕ). (i < n) × (level o i < l)) before

pub none_lower : (n : ℕ) (o : List ℕ) → Lower n o 0 []
none_lower n o = record { once = tt; sound = λ i m. absurd (not-nil m); whole = λ i h. absurd (omega (arith, h.1)) }

module _ {n : ℕ} {o : List ℕ} (p : Order n o) where
  pub lower_next : (l : ℕ) (before : List ℕ) (v : ℕ) → v < n → level o v ≡ l → Lower n o l before → Lower n o (suc l) (v ∷ before)
  lower_next l before v hv e a =
      record {
        once = (λ m. omega (arith, (a.sound v m).1), a.once);
        sound = λ i m. elim (cases_cons m) [ inl q ↦ rw q (hv, omega arith) | inr k ↦ let r = a.sound i k in (r.0, omega (arith, r.1)) ];
        whole = λ i k.
            elim (eq-or-lt_of_le (le_of_suc-le-suc k.1)) [
              | inl q ↦ head (level_one p i v k.0 hv (q ∙ sym e))
              | inr q ↦ tail (a.whole i (k.0, q))
            ];
      }

module _ {n : ℕ} {o : List ℕ} (p : Order n o) (t : List ℕ) (h : length t ≡ 2 ^ n) where
  -- a level's nodes go by the set of the flags before it
  lower_level : (before : List ℕ) (v : ℕ) → Lower n o (level o v) before
      → Within (level_nodes before v t) (level_nodes (asked_before v o) v t) × Within (level_nodes (asked_before v o) v t) (level_nodes before v t)
  lower_level before v a =
      let b = asked_exactly p v in
      let w : Within before (asked_before v o) = λ i m. b.whole i (a.sound i m) in
      let w' : Within (asked_before v o) before = λ i m. a.whole i (b.sound i m) in (
        friedman_nodes n before (asked_before v o) a.once b.once w w' (λ i m. (a.sound i m).0) t h v,
        friedman_nodes n (asked_before v o) before b.once a.once w' w (λ i m. (b.sound i m).0) t h v,
      )

  nodes_level : (vs before : List ℕ) (l : ℕ) → Turn n o l vs → Lower n o l before → {u : List ℕ} → In u (nodes_from before vs t)
      → (v : ℕ) × In v vs × In u (level_nodes (asked_before v o) v t)
  unfolding nodes_from
  nodes_level [] before l q a m = absurd (not-nil m)
  nodes_level (v ∷ vs) before l q a {u} m =
      elim (append_cases (level_nodes before v t) m) [
        | inl k ↦ (v, head refl, (lower_level before v (subst (λ (l : ℕ). Lower n o l before) (sym q.1) a)).0 u k)
        | inr k ↦ let (w, mw, r) = nodes_level vs (v ∷ before) (suc l) q.2 (lower_next p l before v q.0 q.1 a) k in (w, tail mw, r)
      ]

  level_nodes_lem : (vs before : List ℕ) (l : ℕ) → Turn n o l vs → Lower n o l before → {u : List ℕ} (v : ℕ) → In v vs
      → In u (level_nodes (asked_before v o) v t) → In u (nodes_from before vs t)
  unfolding nodes_from
  level_nodes_lem [] before l q a v i m = absurd (not-nil i)
  level_nodes_lem (w ∷ vs) before l q a {u} v i m =
      elim (cases_cons i) [
        | inl e ↦
            append_left (nodes_from (w ∷ before) vs t)
            ((lower_level before w (subst (λ (l : ℕ). Lower n o l before) (sym q.1) a)).1 u (rw e at m))
        | inr k ↦ append_right (level_nodes before w t) (level_nodes_lem vs (w ∷ before) (suc l) q.2 (lower_next p l before w q.0 q.1 a) v k m)
      ]

  -- the nodes of an order are those of the levels of its flags
  pub nodes_is : (u : List ℕ) → In u (nodes_of o t) ↔ ((v : ℕ) × (v < n) × In u (level_nodes (asked_before v o) v t))
  nodes_is u = (
    λ m. let (v, i, k) = nodes_level o [] 0 (whole_turn p) (none_lower n o) m in (v, p.sound v i, k),
    λ (v, i, k). level_nodes_lem o [] 0 (whole_turn p) (none_lower n o) v (p.whole v i) k,
  )

-- ---- the rules that arise by fixing flags

module _ (n : ℕ) where
  -- what the rule does not depend on, no rule that arises from it depends on
  fixings_keep : (v : ℕ) (l t : List ℕ) → length t ≡ 2 ^ n → v < n → Flags n l → depends v t ≡ false → {u : List ℕ} → In u (fixings l t) → depends v u ≡ false
  unfolding fixings
  fixings_keep v [] t fit h f d m = rw (eq_of_singleton m) d
  fixings_keep v (i ∷ l) t fit h f d m =
      let (b, b<2, k) = unbranch i l t m in
      fixings_keep v l (cofactor i b t) (length-cofactor i b t ∙ fit) h (λ j q. f j (tail q)) (cofactor_keeps n t fit v i b h (f i (head refl)) b<2 d) k

  -- nor on a flag that was fixed
  pub fixings_free : (v : ℕ) (l t : List ℕ) → length t ≡ 2 ^ n → Flags n l → In v l → {u : List ℕ} → In u (fixings l t) → depends v u ≡ false
  fixings_free v [] t fit f i m = absurd (not-nil i)
  fixings_free v (w ∷ l) t fit f i m =
      let (b, b<2, k) = unbranch w l t m in
      let fit' = length-cofactor w b t ∙ fit in
      elim (cases_cons i) [
        | inl e ↦ fixings_keep v l (cofactor w b t) fit' (f v i) (λ j q. f j (tail q)) (rw e (cofactor_free n t fit w b (f w (head refl)))) k
        | inr j ↦ fixings_free v l (cofactor w b t) fit' (λ j q. f j (tail q)) j k
      ]

-- a rule arises from itself where the flags that are fixed are no flags of its own
fixings_own : (l t : List ℕ) → ((i : ℕ) → In i l → depends i t ≡ false) → In t (fixings l t)
unfolding fixings
fixings_own [] t f = head refl
fixings_own (i ∷ l) t f =
    branch i l t 0 (omega arith) (rw (cofactor_own i 0 t (omega arith) (f i (head refl))) (fixings_own l t (λ j q. f j (tail q))))

-- what arises from a cofactor by fixing its flag among others arises from the rule
fixings_again : (n v b : ℕ) → v < n → b < 2 → (l t : List ℕ) → length t ≡ 2 ^ n → Flags n l → In v l → Within (fixings l (cofactor v b t)) (fixings l t)
fixings_again n v b v<n b<2 [] t fit f i u m = absurd (not-nil i)
fixings_again n v b v<n b<2 (w ∷ l) t fit f i u m =
    let (a, a<2, k) = unbranch w l (cofactor v b t) m in
    elim (ℕ_discrete w v) [
      | yes e ↦
          let q : cofactor w a (cofactor v b t) ≡ cofactor v b t = ap (λ (x : ℕ). cofactor x a (cofactor v b t)) e ∙ cofactor_twice n t fit v a b v<n a<2 in
          branch w l t b b<2 (rw e (rw q at k))
      | no d ↦
          branch w l t a a<2
          (fixings_again n v b v<n b<2 l (cofactor w a t) (length-cofactor w a t ∙ fit) (λ j q. f j (tail q)) (later d i) u
          (rw (cofactor_comm n t fit w v a b (f w (head refl)) v<n a<2 b<2 d) at k))
    ]

-- ---- each node once

module _ (n : ℕ) where
  flags_next : {v : ℕ} {l : List ℕ} → Flags n l → v < n → Flags n (v ∷ l)
  flags_next f h i m = elim (cases_cons m) [ inl e ↦ rw e h | inr k ↦ f i k ]

  nodes_free : (v : ℕ) (vs before t : List ℕ) → length t ≡ 2 ^ n → Flags n before → Flags n vs → In v before → {u : List ℕ}
      → In u (nodes_from before vs t) → depends v u ≡ false
  unfolding nodes_from
  nodes_free v [] before t fit f g i m = absurd (not-nil m)
  nodes_free v (w ∷ vs) before t fit f g i m =
      elim (append_cases (level_nodes before w t) m) [
        | inl k ↦ fixings_free n v before t fit f i (level_in before w t k).0
        | inr k ↦ nodes_free v vs (w ∷ before) t fit (flags_next f (g w (head refl))) (λ j q. g j (tail q)) (tail i) k
      ]

  nodes_apart : (vs before t : List ℕ) → length t ≡ 2 ^ n → Flags n before → Flags n vs → Once (nodes_from before vs t)
  unfolding nodes_from
  nodes_apart [] before t fit f g = tt
  nodes_apart (v ∷ vs) before t fit f g =
      let next = flags_next f (g v (head refl)) in
      let rest : Flags n vs = λ j q. g j (tail q) in
      once_append (level_nodes before v t) (nodes_from (v ∷ before) vs t) (level_once before v t) (nodes_apart vs (v ∷ before) t fit next rest)
      (λ u i j. true≢false (sym (level_in before v t i).1 ∙ nodes_free v vs (v ∷ before) t fit next rest (head refl) j))

pub nodes_once : {n : ℕ} {o : List ℕ} → Order n o → (t : List ℕ) → length t ≡ 2 ^ n → Once (nodes_of o t)
nodes_once {n} {o} p t fit = nodes_apart n o [] t fit (λ i m. absurd (not-nil m)) p.sound

-- ---- the nodes of a rule and of its cofactors

-- the rule depends on no flag that the order asks before level l
abbrev pub Ignores : ℕ → List ℕ → ℕ → List ℕ → Type 0
Ignores n o l t = (u : ℕ) → u < n → level o u < l → depends u t ≡ false

module _ {n : ℕ} {o : List ℕ} (p : Order n o) (t : List ℕ) (fit : length t ≡ 2 ^ n) {l : ℕ} (ignores : Ignores n o l t) (v : ℕ) (v<n : v < n) (is : level o v ≡ l) where
  pub ignores_cofactor : (b : ℕ) → b < 2 → Ignores n o (l + 1) (cofactor v b t)
  ignores_cofactor b b<2 u u<n h =
      elim (dec_lt (level o u) l) [
        | yes k ↦ cofactor_keeps n t fit u v b u<n v<n b<2 (ignores u u<n k)
        | no k ↦ rw (level_one p u v u<n v<n (omega arith)) (cofactor_free n t fit v b v<n)
      ]

  -- a node of a cofactor is a node of the rule
  pub nodes_cofactor : (b : ℕ) → b < 2 → Within (nodes_of o (cofactor v b t)) (nodes_of o t)
  nodes_cofactor b b<2 u m =
      let fit' = length-cofactor v b t ∙ fit in
      let (w, w<n, k) = (nodes_is p (cofactor v b t) fit' u).0 m in
      let (i, d) = level_in (asked_before w o) w (cofactor v b t) k in
      let a = asked_exactly p w in
      let below : Flags n (asked_before w o) = λ j q. (a.sound j q).0 in
      elim (dec_lt l (level o w)) [
        | yes h ↦
            (nodes_is p t fit u).1
            (w, w<n, in_level (asked_before w o) w t (fixings_again n v b v<n b<2 (asked_before w o) t fit below (a.whole v (v<n, omega arith)) u i) d)
        | no h ↦
            absurd (true≢false (sym d ∙ fixings_keep n w (asked_before w o) (cofactor v b t) fit' w<n below (ignores_cofactor b b<2 w w<n (omega arith)) i))
      ]

  -- and the rule itself is one where it depends on the flag
  pub node_own : depends v t ≡ true → In t (nodes_of o t)
  node_own d =
      let a = asked_exactly p v in
      (nodes_is p t fit t).1
      (v, v<n, in_level (asked_before v o) v t (fixings_own (asked_before v o) t (λ j q. let (h, k) = a.sound j q in ignores j h (omega arith))) d)
