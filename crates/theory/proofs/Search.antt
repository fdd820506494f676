-- The recursion over sets as a function, for any cost: it solves the recursion. So it finds `packed`, where it adds up nodes and flags asked in one number in
-- which a node weighs more than all that walks can ask.
-- Assumes nothing.
use mathlib.Core.Path.{◌≡◌, refl, sym, ap, ap₂, ◌∙◌}
use mathlib.Core.Logic.{◌≢◌}
use mathlib.Core.List.{List, [], ◌∷◌}
use Prim.Native.Nat.{ℕ, zero, suc, ◌+◌, ◌-◌, ◌*◌, ◌^◌, ◌≤◌, ◌<◌}
use native.Mathlib.Nat.{add-mul, le_refl, le_trans, le_of_lt, mul-le-mul_right, not-suc-le-zero}
use native.Mathlib.Decide.{dec_lt}
use native.Mathlib.Omega.{arith}
use lib.ListN.{length}
use Rattle.rule.specs.Bits.{bit, set_bit}
use Rattle.rule.specs.Level.{size, asked_total}
use Rattle.rule.specs.Order.{packed}
use Rattle.theory.proofs.Member.{In, head, not-nil}
use Rattle.theory.proofs.Bits.{bit-zero, clear_lt}
use Rattle.theory.proofs.Perm.{Exactly}
use Rattle.theory.proofs.Least.{Pairwise, Rising, first_of, IsFirst, first_of_lem}
use Rattle.theory.specs.Sets.{Follows, having}
use Rattle.theory.proofs.Dynamic.{total, total_most, total_weighed, Solved, IsLeast, follows_least}
use Rattle.theory.proofs.Sets.{full_lt, member_lt, empty, having_exactly, having-rising, Order, lists_order, order_lists}
use Rattle.theory.proofs.Packed.{IsPacked, packed_one, node_cost, row_cost, size_total, rows_total}
use Rattle.theory.proofs.Rows.{rows_most}
use Rattle.theory.proofs.Orders.{packed_is, order_length}

-- ---- the smallest of a rising list of flags at which f is least, and its value there

pick_in : (ℕ → ℕ) → List ℕ → ℕ
pick_in f [] = 0
pick_in f (v ∷ vs) = first_of f v vs

value_in : (ℕ → ℕ) → List ℕ → ℕ
value_in f [] = 0
value_in f (v ∷ vs) = f (first_of f v vs)

rising_le : (vs : List ℕ) → Rising vs → Pairwise ◌≤◌ vs
rising_le [] r = tt
rising_le (v ∷ vs) r = (λ u m. le_of_lt (r.0 u m), rising_le vs r.1)

module _ (f : ℕ → ℕ) where
  pick_first : (vs : List ℕ) → Rising vs → (v : ℕ) → In v vs → IsFirst f ◌≤◌ vs (pick_in f vs)
  unfolding pick_in
  pick_first [] r v m = absurd (not-nil m)
  pick_first (u ∷ vs) r v m = first_of_lem f ◌≤◌ le_refl (λ x y z. le_trans) u vs (rising_le (u ∷ vs) r)

  value_at_lem : (vs : List ℕ) (v : ℕ) → In v vs → value_in f vs ≡ f (pick_in f vs)
  unfolding pick_in value_in
  value_at_lem [] v m = absurd (not-nil m)
  value_at_lem (u ∷ vs) v m = refl

  value_none : (vs : List ℕ) → ((v : ℕ) → In v vs → ⊥) → value_in f vs ≡ 0
  unfolding value_in
  value_none [] d = refl
  value_none (v ∷ vs) d = absurd (d v (head refl))

value_cong : (f g : ℕ → ℕ) (vs : List ℕ) → Rising vs → ((v : ℕ) → In v vs → f v ≡ g v) → value_in f vs ≡ value_in g vs
unfolding pick_in value_in
value_cong f g [] r e = refl
value_cong f g (v ∷ vs) r e =
    let p = pick_first f (v ∷ vs) r v (head refl) in
    let q = pick_first g (v ∷ vs) r v (head refl) in
    omega (arith, p.least _ q.member, q.least _ p.member, e _ p.member, e _ q.member)

-- ---- the recursion, for any cost

-- the order that asks the picked flag at each step
chosen : (ℕ → ℕ) → ℕ → ℕ → List ℕ
chosen pick zero S = []
chosen pick (suc k) zero = []
chosen pick (suc k) (suc S) = let v = pick (suc S) in v ∷ chosen pick k (set_bit (suc S) v 0)

module _ (c : ℕ → ℕ → ℕ) (n : ℕ) where
  -- the least cost of the orders of S, by at most k steps
  best_for : ℕ → ℕ → ℕ
  best_for zero S = 0
  best_for (suc k) S = value_in (λ (v : ℕ). c S v + best_for k (set_bit S v 0)) (having 1 n S)

  pub best_of : ℕ → ℕ
  best_of S = best_for (2 ^ n - 1) S

  -- the cost of asking v first
  unfoldable pub via : ℕ → ℕ → ℕ
  via S v = c S v + best_of (set_bit S v 0)

  pub pick_of : ℕ → ℕ
  pick_of S = pick_in (via S) (having 1 n S)

  none_left : (f : ℕ → ℕ) → value_in f (having 1 n 0) ≡ 0
  none_left f = value_none f (having 1 n 0) (λ v m. omega (arith, (having_exactly 1 n 0).sound v m, bit-zero v))

  -- more steps than S has flags change nothing
  stable : (k S : ℕ) → S ≤ k → best_for (suc k) S ≡ best_for k S
  unfolding best_for
  stable zero zero h = none_left _
  stable zero (suc S) h = absurd (not-suc-le-zero h)
  stable (suc k) S h =
      value_cong (λ (v : ℕ). c S v + best_for (suc k) (set_bit S v 0)) (λ (v : ℕ). c S v + best_for k (set_bit S v 0)) (having 1 n S) (having-rising 1 n S)
      (λ v m. ap (λ (x : ℕ). c S v + x) (stable k (set_bit S v 0) (omega (arith, clear_lt S v ((having_exactly 1 n S).sound v m).1))))

  best_is : (S : ℕ) → S ≤ 2 ^ n - 1 → best_of S ≡ value_in (via S) (having 1 n S)
  unfolding best_for best_of via
  best_is S h = sym (stable (2 ^ n - 1) S h)

  member : (S v : ℕ) → S ≤ 2 ^ n - 1 → bit S v ≡ 1 → In v (having 1 n S)
  member S v h e = (having_exactly 1 n S).whole v (member_lt n S v (omega (arith, full_lt n)) e, e)

  -- the picked flag, where S has one
  pub picked : (S v : ℕ) → S ≤ 2 ^ n - 1 → bit S v ≡ 1 → IsFirst (via S) ◌≤◌ (having 1 n S) (pick_of S) × (best_of S ≡ via S (pick_of S))
  unfolding pick_of
  picked S v h e = (
    pick_first (via S) (having 1 n S) (having-rising 1 n S) v (member S v h e),
    best_is S h ∙ value_at_lem (via S) (having 1 n S) v (member S v h e),
  )

  some : (S : ℕ) → S ≤ 2 ^ n - 1 → S ≢ 0 → (v : ℕ) × (bit S v ≡ 1)
  some S h d = go (having 1 n S) (having_exactly 1 n S)
    where
      go : (vs : List ℕ) → Exactly (λ (i : ℕ). (i < n) × (bit S i ≡ 1)) vs → (v : ℕ) × (bit S v ≡ 1)
      go [] p =
          let b : S < 2 ^ n = omega (arith, full_lt n) in
          absurd (d (empty n S b (λ i e. not-nil (p.whole i (member_lt n S i b e, e)))))
      go (v ∷ vs) p = (v, (p.sound v (head refl)).1)

  -- so best and pick are a solution
  pub solved : Solved c (2 ^ n - 1) best_of pick_of
  unfolding via
  solved =
      record {
        none = best_is 0 (omega arith) ∙ none_left (via 0);
        low = λ S v h e. let (p, q) = picked S v h e in rw q (p.least v (member S v h e));
        member = λ S h d. let (v, e) = some S h d in ((having_exactly 1 n S).sound _ (picked S v h e).0.member).1;
        reached = λ S h d. let (v, e) = some S h d in (picked S v h e).1;
        first = λ S v h e k. let (p, q) = picked S v h e in p.first v (member S v h e) (sym k ∙ q);
      }

  follows : (k S : ℕ) → S ≤ k → S ≤ 2 ^ n - 1 → Follows pick_of S (chosen pick_of k S)
  unfolding chosen
  follows zero S h b = omega arith
  follows (suc k) zero h b = refl
  follows (suc k) (suc S) h b =
      let d : suc S ≢ 0 = omega arith in
      let l = clear_lt (suc S) (pick_of (suc S)) (solved.member (suc S) b d) in
      (d, refl, follows k (set_bit (suc S) (pick_of (suc S)) 0) (omega arith) (omega arith))

  -- the order that the recursion finds
  pub dynamic : List ℕ
  dynamic = chosen pick_of (2 ^ n - 1) (2 ^ n - 1)

  dynamic_follows : Follows pick_of (2 ^ n - 1) dynamic
  unfolding dynamic
  dynamic_follows = follows (2 ^ n - 1) (2 ^ n - 1) (le_refl _) (le_refl _)

  -- it costs least of all orders, and stands first of those that do
  pub dynamic_least : IsLeast c (2 ^ n - 1) dynamic
  dynamic_least = (follows_least c (2 ^ n - 1) best_of pick_of solved (2 ^ n - 1) dynamic (le_refl _) dynamic_follows).0

-- ---- for nodes and flags asked

-- both costs in one number, in which a node weighs w
unfoldable pub cost : ℕ → ℕ → List ℕ → ℕ → ℕ → ℕ
cost w n t S v = node_cost n t S v * w + row_cost n t S v

-- what is less than a node weighs never makes up for one
weighs_more : (w x y a b : ℕ) → x * w + a ≤ y * w + b → b < w → x ≤ y
weighs_more w x y a b h l =
    elim (dec_lt y x) [ yes k ↦ absurd (omega (arith, mul-le-mul_right {m = suc y} {n = x} w k, add-mul 1 y w)) | no d ↦ omega arith ]

module _ (w n : ℕ) (t : List ℕ) (fit : length t ≡ 2 ^ n) (heavy : n * 2 ^ n < w) where
  -- no order's walks ask as many flags as a node weighs
  asked_lt : (o : List ℕ) → Order n o → asked_total o t < w
  asked_lt o p =
      let most : (S v : ℕ) → row_cost n t S v ≤ 2 ^ n = λ S v. unfold row_cost in rw (← fit) (rows_most (having 0 n S) v t) in
      let k : total (row_cost n t) (2 ^ n - 1) o ≤ n * 2 ^ n = rw (order_length n o p) at (total_most (row_cost n t) (2 ^ n) most (2 ^ n - 1) o) in
      omega (arith, rows_total n t fit o p)

  -- what an order costs
  weighed : (o : List ℕ) → Order n o → total (cost w n t) (2 ^ n - 1) o ≡ size o t * w + asked_total o t
  unfolding cost
  weighed o p =
      total_weighed (node_cost n t) (row_cost n t) w (2 ^ n - 1) o
      ∙ ap₂ (λ (x y : ℕ). x * w + y) (sym (size_total n t fit o p)) (sym (rows_total n t fit o p))

  -- so the first of the orders that cost least is packed
  least_packed : (o : List ℕ) → IsLeast (cost w n t) (2 ^ n - 1) o → IsPacked n t o
  least_packed o l =
      let a = lists_order n o l.lists in
      let low : (p : List ℕ) → Order n p → size o t * w + asked_total o t ≤ size p t * w + asked_total p t =
      λ p b. rw (← weighed o a, ← weighed p b) (l.least p (order_lists n p b)) in
      record {
        order = a;
        fewest = λ p b. weighs_more w (size o t) (size p t) (asked_total o t) (asked_total p t) (low p b) (asked_lt p b);
        least = λ p b e. omega (arith, low p b, ap (λ (x : ℕ). x * w) e);
        first = λ p b e f. l.first p (order_lists n p b) (weighed p b ∙ ap₂ (λ (x y : ℕ). x * w + y) e f ∙ sym (weighed o a));
      }

  -- any solution of the recursion finds `packed`, and what it costs
  pub dynamic_packs : (best pick : ℕ → ℕ) → Solved (cost w n t) (2 ^ n - 1) best pick → (o : List ℕ) → Follows pick (2 ^ n - 1) o
      → (o ≡ packed n t) × (size (packed n t) t * w + asked_total (packed n t) t ≡ best (2 ^ n - 1))
  dynamic_packs best pick s o f =
      let (l, e) = follows_least (cost w n t) (2 ^ n - 1) best pick s (2 ^ n - 1) o (le_refl _) f in
      let q = packed_one n t o (packed n t) (least_packed o l) (packed_is n t) in
      (q, rw q at (sym (weighed o (lists_order n o l.lists)) ∙ e))

  -- so the recursion, as a function, does
  pub dynamic_is_packed : dynamic (cost w n t) n ≡ packed n t
  dynamic_is_packed = (dynamic_packs (best_of (cost w n t) n) (pick_of (cost w n t) n) (solved (cost w n t) n) _ (dynamic_follows (cost w n t) n)).0
