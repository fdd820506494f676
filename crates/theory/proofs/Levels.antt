-- The level of a flag: an order's flags before it and from it on.
-- Assumes nothing.
use mathlib.Core.Path.{◌≡◌, refl, sym, ap, ◌∙◌}
use mathlib.Core.Logic.{inl, inr, ◌≢◌, ◌↔◌}
use mathlib.Core.List.Memᴰ.{append_right}
use mathlib.Core.List.Memᴰ.{cases_cons}
use mathlib.Core.List.Memᴰ.{head}
use mathlib.Core.List.Memᴰ.{not-nil}
use mathlib.Core.List.Memᴰ.{tail}
use mathlib.Core.List.{List, [], ◌∷◌, ◌++◌, append-nil, Memᴰ as In}
use Prim.Native.Nat.{ℕ, suc, ◌+◌, ◌<◌, suc-le-suc}
use native.Mathlib.Nat.{le_of_suc-le-suc}
use native.Mathlib.Numerals.{add-one}
use native.Mathlib.Decide.{ℕ_discrete}
use native.Mathlib.Omega.{arith}
use borrow.Author.Tests.{eq-eqb, ne_eqb}
use lib.ListN.{length, get_or, take, drop, length-append}
use lib.Seq.{append_snoc, get_or-append_seam, get_or-take, split_at, take-suc, length-take-le}
use Rattle.rule.specs.Order.{flags, asked_before, level}
use Rattle.theory.proofs.Perm.{Once, Within, Exactly, later}
use Rattle.theory.proofs.Friedman.{BySet}
use Rattle.theory.proofs.Sets.{Order}
use Rattle.theory.proofs.Orders.{order_length}

-- ---- the flags before v

pub asked_here : (u v : ℕ) (o : List ℕ) → u ≡ v → asked_before v (u ∷ o) ≡ []
unfolding asked_before
asked_here u v o e = rw (eq-eqb u v e)

pub asked_there : (u v : ℕ) (o : List ℕ) → u ≢ v → asked_before v (u ∷ o) ≡ u ∷ asked_before v o
unfolding asked_before
asked_there u v o d = rw (ne_eqb u v d)

-- an order asks the flags before v, then v, then the others
pub order_split : (v : ℕ) (o : List ℕ) → In v o → (rest : List ℕ) × (o ≡ asked_before v o ++ (v ∷ rest))
order_split v [] m = absurd (not-nil m)
order_split v (u ∷ o) m =
    elim (ℕ_discrete u v) [
      | yes e ↦ (o, rw (asked_here u v o e, e))
      | no d ↦ let (r, q) = order_split v o (later d m) in (r, rw (asked_there u v o d) (ap {B = List ℕ} (λ (l : List ℕ). u ∷ l) q))
    ]

-- what stands before v in a list without repeats
pub asked_prefix : (v : ℕ) (p r : List ℕ) → Once (p ++ (v ∷ r)) → asked_before v (p ++ (v ∷ r)) ≡ p
asked_prefix v [] r o = asked_here v v r refl
asked_prefix v (u ∷ p) r o =
    asked_there u v (p ++ (v ∷ r)) (λ e. o.0 (append_right p (head e))) ∙ ap {B = List ℕ} (λ (l : List ℕ). u ∷ l) (asked_prefix v p r o.1)

pub asked_within : (v : ℕ) (o : List ℕ) → Within (asked_before v o) o
unfolding asked_before
asked_within v [] x m = m
asked_within v (u ∷ o) x m =
    elim (ℕ_discrete u v) [
      | yes e ↦ absurd (not-nil (rw (asked_here u v o e) at m))
      | no d ↦ elim (cases_cons (rw (asked_there u v o d) at m)) [ inl q ↦ head q | inr k ↦ tail (asked_within v o x k) ]
    ]

pub asked_once : (v : ℕ) (o : List ℕ) → Once o → Once (asked_before v o)
unfolding asked_before
asked_once v [] p = tt
asked_once v (u ∷ o) p =
    elim (ℕ_discrete u v) [
      | yes e ↦ rw (asked_here u v o e) tt
      | no d ↦ rw (asked_there u v o d) (λ m. p.0 (asked_within v o u m), asked_once v o p.1)
    ]

-- they are those of the lower levels
pub asked_lower : (u v : ℕ) (o : List ℕ) → In u (asked_before v o) ↔ (level o u < level o v)
unfolding asked_before
asked_lower u v [] = (λ m. absurd (not-nil m), λ h. absurd (omega arith))
asked_lower u v (w ∷ o) =
    elim (ℕ_discrete w v) [
      | yes e ↦ rw (asked_here w v o e) (λ m. absurd (not-nil m), λ h. absurd (omega arith))
      | no d ↦
          elim (ℕ_discrete w u) [
            | yes e ↦ rw (asked_there w v o d, asked_here w u o e) (λ m. omega arith, λ h. head (sym e))
            | no f ↦
                let r = asked_lower u v o in
                rw (asked_there w v o d, asked_there w u o f) (λ m. suc-le-suc (r.0 (later f m)), λ h. tail (r.1 (le_of_suc-le-suc h)))
          ]
    ]

-- ---- levels

-- flag v stands at its level
pub flag_level : (v : ℕ) (o : List ℕ) → In v o → get_or o (level o v) 0 ≡ v
flag_level v o m =
    let (r, e) = order_split v o m in
    ap (λ (l : List ℕ). get_or l (level o v) 0) e ∙ get_or-append_seam (asked_before v o) v r 0

-- the flags vs stand at the levels from l on
abbrev pub Turn : ℕ → List ℕ → ℕ → List ℕ → Type 0
Turn n o l [] = Unit {0}
Turn n o l (v ∷ vs) = (v < n) × (level o v ≡ l) × Turn n o (suc l) vs

module _ {n : ℕ} {o : List ℕ} (p : Order n o) where
  pub level_lt : (v : ℕ) → v < n → level o v < n
  level_lt v h =
      let (r, e) = order_split v o (p.whole v h) in
      omega (arith, order_length n o p, ap length e, length-append (asked_before v o) (v ∷ r))

  -- flags of one level are one
  pub level_one : (u v : ℕ) → u < n → v < n → level o u ≡ level o v → u ≡ v
  level_one u v h k e =
      sym (flag_level u o (p.whole u h)) ∙ ap (λ (i : ℕ). get_or o i 0) e ∙ flag_level v o (p.whole v k)

  -- the flags before v, once each
  pub asked_exactly : (v : ℕ) → Exactly (λ (i : ℕ). (i < n) × (level o i < level o v)) (asked_before v o)
  asked_exactly v =
      record {
        once = asked_once v o p.once;
        sound = λ i m. (p.sound i (asked_within v o i m), (asked_lower i v o).0 m);
        whole = λ i h. (asked_lower i v o).1 h.1;
      }

  -- what goes by the set of the flags before v is the same for another order that has the same flags before v
  pub same_before : {o' : List ℕ} → Order n o' → (v : ℕ) → Within (asked_before v o) (asked_before v o') → Within (asked_before v o') (asked_before v o)
      → (f : List ℕ → ℕ) → BySet n f → f (asked_before v o) ≡ f (asked_before v o')
  same_before {o'} q v w w' f same =
      let a = asked_exactly v in
      same (asked_before v o) (asked_before v o') a.once (asked_once v o' q.once) w w' (λ i m. (a.sound i m).0)

  -- the flags of an order stand at their levels in turn
  pub order_turn : (q vs r : List ℕ) → o ≡ q ++ (vs ++ r) → Turn n o (length q) vs
  order_turn q [] r e = tt
  order_turn q (v ∷ vs) r e = (
    p.sound v (rw e (append_right q (head refl))),
    ap (λ (l : List ℕ). level l v) e ∙ ap length (asked_prefix v q (vs ++ r) (rw e at p.once)),
    let l : length (q ++ (v ∷ [])) ≡ suc (length q) = omega (arith, length-append q (v ∷ [])) in
        rw l at (order_turn (q ++ (v ∷ [])) vs r (e ∙ sym (append_snoc q v (vs ++ r)))),
  )

  pub asked_turn : (v : ℕ) → v < n → Turn n o 0 (asked_before v o)
  asked_turn v h = let (r, e) = order_split v o (p.whole v h) in order_turn [] (asked_before v o) (v ∷ r) e

  pub whole_turn : Turn n o 0 o
  whole_turn = order_turn [] o [] (sym (append-nil o))

-- ---- the flag that stands at a place

module _ {n at : ℕ} (order : List ℕ) (p : Order n (flags n order)) (h : at < n) where
  within : at < length (flags n order)
  within = omega (arith, order_length n (flags n order) p)

  at_flags : get_or (flags n order) at 0 ≡ get_or order at 0
  at_flags = get_or-take n order at 0 h

  splits : flags n order ≡ take at (flags n order) ++ (get_or order at 0 ∷ drop (suc at) (flags n order))
  splits =
      split_at (flags n order) at 0 within
      ∙ ap (λ (x : ℕ). take at (flags n order) ++ (x ∷ drop (suc at) (flags n order))) at_flags

  before_is : asked_before (get_or order at 0) (flags n order) ≡ take at (flags n order)
  before_is =
      ap (asked_before (get_or order at 0)) splits
      ∙ asked_prefix (get_or order at 0) (take at (flags n order)) (drop (suc at) (flags n order)) (rw splits at p.once)

  length_before : length (take at (flags n order)) ≡ at
  length_before = length-take-le at (flags n order) (omega (arith, within))

  pub place_flag : get_or order at 0 < n
  place_flag = p.sound (get_or order at 0) (rw splits (append_right (take at (flags n order)) (head refl)))

  -- its level is the place
  pub place_level : level (flags n order) (get_or order at 0) ≡ at
  place_level = ap length before_is ∙ length_before

  -- the flags before it are those of the lower levels
  pub place_before : Exactly (λ (i : ℕ). (i < n) × (level (flags n order) i < at)) (take at (flags n order))
  place_before = rw (before_is, length_before) at (asked_exactly p (get_or order at 0))

  -- and it comes next
  pub place_next : take (at + 1) (flags n order) ≡ take at (flags n order) ++ (get_or order at 0 ∷ [])
  place_next =
      ap (λ (x : ℕ). take x (flags n order)) (add-one at)
      ∙ take-suc (flags n order) at 0 within
      ∙ ap (λ (x : ℕ). take at (flags n order) ++ (x ∷ [])) at_flags
