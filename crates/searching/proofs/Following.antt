-- The order that the first flags of all sets give, flag by flag.
-- Assumes nothing.
use mathlib.Core.Path.{◌≡◌, refl, sym, ap, ◌∙◌}
use mathlib.Core.Logic.{◌≢◌}
use mathlib.Core.List.{List, [], ◌∷◌, ◌++◌, append_assoc, append-nil}
use Prim.Native.Nat.{ℕ, zero, suc, ◌+◌, ◌-◌, ◌/◌, ◌^◌, ◌≤◌, ◌<◌}
use native.Mathlib.Omega.{arith}
use lib.Count.{ones_in}
use lib.ListN.{length, get_or, set, replicate, length-append}
use lib.Pow.{pow_mono}
use lib.Seq.{set_at}
use Rattle.rule.specs.Bits.{bit, set_bit}
use Rattle.rule.specs.Sets.{set_size}
use Rattle.theory.proofs.Bits.{clear_le}
use Rattle.theory.proofs.Orders.{in_places_is}
use Rattle.theory.proofs.Sets.{full_lt, member_lt}
use Rattle.folding.proofs.Outside.{rest_size}
use Rattle.searching.specs.Order.{Asks, Members, Followed}

-- ---- sets by their size

full_ones : (d n : ℕ) → n ≤ d → ones_in d (2 ^ n - 1) ≡ n
unfolding ones_in
full_ones zero n h = omega arith
full_ones (suc d) zero h = omega (arith, full_ones d zero (omega arith))
full_ones (suc d) (suc n) h =
    let e : (2 ^ suc n - 1) / 2 ≡ 2 ^ n - 1 = omega arith in
    omega (arith, full_lt n, ap (ones_in d) e, full_ones d n (omega arith))

no_ones : (d x : ℕ) → x < 2 ^ d → ones_in d x ≡ 0 → x ≡ 0
unfolding ones_in
no_ones zero x h e = omega arith
no_ones (suc d) x h e = omega (arith, no_ones d (x / 2) (omega arith) (omega arith))

-- ---- flag by flag

-- the first i flags stand in their places, and the others are still to be asked: S
pub record Following (n : ℕ) (first places : List ℕ) (S i : ℕ) : Type 0 where
  pub taken : List ℕ
  pub lent : length taken ≡ i
  pub places_are : places ≡ taken ++ replicate (10 - i) 0
  pub below : S < 2 ^ n
  pub asked : i + set_size S ≡ n
  pub asks : (rest : List ℕ) → Asks first S rest → Asks first (2 ^ n - 1) (taken ++ rest)

pub following_none : (n : ℕ) (first : List ℕ) → n ≤ 10 → Following n first (replicate 10 0) (2 ^ n - 1) 0
following_none n first few =
    record {
      taken = [];
      lent = refl;
      places_are = refl;
      below = full_lt n;
      asked = omega (arith, full_ones 10 n few);
      asks = λ rest h. h;
    }

module _ {n S i : ℕ} {first places : List ℕ} (m : Members n first) (f : Following n first places S i) where
  some : i < n → S ≢ 0
  some d z = omega (arith, f.asked, ap set_size z, full_ones 10 0 (omega arith))

  pub flag_in : i < n → bit S (get_or first S 0) ≡ 1
  flag_in d = m.is S f.below (some d)

  pub flag_small : i < n → get_or first S 0 < 10
  flag_small d = omega (arith, member_lt n S (get_or first S 0) f.below (flag_in d), m.few)

  pub set_small : S < 1024
  set_small = omega (arith, f.below, pow_mono {i = n} {j = 10} m.few)

  one_more : i < n → n - set_size (set_bit S (get_or first S 0) 0) ≡ suc (n - set_size S)
  one_more d = rest_size n S (get_or first S 0) m.few f.below (member_lt n S (get_or first S 0) f.below (flag_in d)) (flag_in d)

  pub following_more : {r : ℕ} → i < n → r ≡ set_bit S (get_or first S 0) 0 → Following n first (set places i (get_or first S 0)) r (i + 1)
  following_more {r} d e =
      let v = get_or first S 0 in
      let k : 10 - i ≡ suc (10 - (i + 1)) = omega (arith, m.few) in
      record {
        taken = f.taken ++ (v ∷ []);
        lent = length-append f.taken (v ∷ []) ∙ omega (arith, f.lent);
        places_are = ap (λ (x : List ℕ). set x i v) (f.places_are ∙ ap (λ (j : ℕ). f.taken ++ replicate {A = ℕ} j 0) k)
            ∙ set_at f.taken 0 (replicate (10 - (i + 1)) 0) v i f.lent
            ∙ sym (append_assoc f.taken (v ∷ []) (replicate (10 - (i + 1)) 0));
        below = omega (arith, f.below, clear_le S v);
        asked = rw e (omega (arith, f.asked, one_more d));
        asks = λ rest h. rw append_assoc (f.asks (v ∷ rest) (some d, refl, rw e at h));
      }

  pub following_all : n ≤ i → Followed n first places
  following_all h =
      let z : S ≡ 0 = no_ones 10 S set_small (omega (arith, f.asked)) in
      record {
        order = f.taken;
        asks = rw append-nil at (f.asks [] z);
        is = f.places_are
            ∙ ap (λ (j : ℕ). f.taken ++ replicate {A = ℕ} (10 - j) 0) (sym f.lent)
            ∙ sym (in_places_is f.taken (omega (arith, f.lent, f.asked, m.few)));
      }
