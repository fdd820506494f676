-- The snapshots of a log, as they are played, and what their tally counts.
-- Assumes nothing.
use mathlib.Core.Path.{◌≡◌, refl, sym, ap, ◌∙◌}
use mathlib.Core.Bool.{Bool, true, false, cond}
use mathlib.Core.List.{List, [], ◌∷◌, ◌++◌, map, map-append}
use Prim.Native.Nat.{ℕ, zero, suc, ◌+◌, ◌*◌, ◌-◌, ◌/◌, ◌≤◌, ◌<◌}
use native.Mathlib.Omega.{arith}
use borrow.Author.Tests.{ne_eqb}
use lib.Dec.{eqb}
use lib.ListN.{length, get_or, replicate}
use Rattle.rule.specs.Bits.{bit, from, below}
use Rattle.rule.specs.Tests.{keep}
use Rattle.rule.specs.Order.{in_places}
use Rattle.rule.specs.Sets.{flag_set}
use Rattle.rule.specs.Log.{snapshots, Played, played, changes_behind, changes, times_asked, tally_numbers, tally_of}
use Rattle.rule.specs.Files.{two_at}
use Rattle.theory.proofs.Member.{In, head, tail}
use Rattle.theory.proofs.Bits.{from-append, length-below}
use Rattle.theory.proofs.Orders.{in_places_is, zero-places}

-- ---- the rows

pub snapshots-length : (log : List ℕ) → length (snapshots log) ≡ length log / 2
unfolding snapshots
snapshots-length [] = refl
snapshots-length (low ∷ []) = refl
snapshots-length (low ∷ high ∷ log) = omega (arith, snapshots-length log)

pub snapshot_at : (log : List ℕ) (i : ℕ) → i < length (snapshots log) → get_or (snapshots log) i 0 ≡ two_at log (i * 2)
unfolding snapshots
snapshot_at [] i h = let z : ⊥ = omega arith in absurd z
snapshot_at (low ∷ []) i h = let z : ⊥ = omega arith in absurd z
snapshot_at (low ∷ high ∷ log) zero h = refl
snapshot_at (low ∷ high ∷ log) (suc i) h =
    let first : suc i * 2 ≡ suc (suc (i * 2)) = omega arith in
    let second : suc (suc (i * 2)) + 1 ≡ suc (suc (i * 2 + 1)) = omega arith in
    rw (first, second) (snapshot_at log i (omega arith))

-- ---- as they are played

pub played-more : (answer : ℕ → ℕ) (asks : ℕ → List ℕ) (rows : List ℕ) (row : ℕ)
    → played answer asks (rows ++ (row ∷ [])) ≡ played answer asks rows ++ ((answer row, flag_set (asks row)) ∷ [])
unfolding played
played-more answer asks [] row = refl
played-more answer asks (x ∷ rows) row = ap (λ (ps : List Played). (answer x, flag_set (asks x)) ∷ ps) (played-more answer asks rows row)

pub played-length : (answer : ℕ → ℕ) (asks : ℕ → List ℕ) (rows : List ℕ) → length (played answer asks rows) ≡ length rows
unfolding played
played-length answer asks [] = refl
played-length answer asks (x ∷ rows) = ap suc (played-length answer asks rows)

-- the same answers and flags for each of the rows
pub played-same : (answer other : ℕ → ℕ) (asks more : ℕ → List ℕ) (rows : List ℕ) → ((row : ℕ) → In row rows → answer row ≡ other row)
    → ((row : ℕ) → In row rows → asks row ≡ more row) → played answer asks rows ≡ played other more rows
unfolding played
played-same answer other asks more [] e f = refl
played-same answer other asks more (x ∷ rows) e f =
    let rest = played-same answer other asks more rows (λ row i. e row (tail i)) (λ row i. f row (tail i)) in
    λ i. (e x (head refl) i, flag_set (f x (head refl) i)) ∷ rest i

-- ---- the flags in their places

-- a flag that no set has is never asked
pub never_asked : (ps : List Played) (v : ℕ) → ((p : Played) → In p ps → bit p.1 v ≡ 0) → times_asked ps v ≡ 0
unfolding times_asked keep
never_asked [] v h = refl
never_asked (p ∷ ps) v h =
    rw (ne_eqb (bit p.1 v) 1 (λ e. omega (arith, e, h p (head refl)))) (never_asked ps v (λ q i. h q (tail i)))

zeros-from : (f : ℕ → ℕ) (n k : ℕ) → ((v : ℕ) → n ≤ v → f v ≡ 0) → map f (from n k) ≡ replicate k 0
unfolding from
zeros-from f n zero h = refl
zeros-from f n (suc k) h = λ i. h n (omega arith) i ∷ zeros-from f (suc n) k (λ v l. h v (omega arith)) i

-- what n flags' numbers are in ten places, where those of the other flags are 0
pub in_ten : (f : ℕ → ℕ) (n : ℕ) → n ≤ 10 → ((v : ℕ) → n ≤ v → f v ≡ 0) → in_places (map f (below n)) ≡ map f (below 10)
in_ten f n h e =
    let l = map f (below n) in
    let left : 10 - length l ≡ 10 - n = omega (arith, length-below f n) in
    let ten : n + (10 - n) ≡ 10 = omega arith in
    let first : n ≡ 0 + n = omega arith in
    in_places_is l (omega (arith, length-below f n))
    ∙ ap {B = List ℕ} (λ (k : ℕ). l ++ replicate k 0) left
    ∙ ap (λ (m : List ℕ). l ++ m) (sym (zeros-from f n (10 - n) e) ∙ ap (λ (k : ℕ). map f (from k (10 - n))) first)
    ∙ sym (map-append f (below n) (from (0 + n) (10 - n)))
    ∙ ap (map f) (sym (from-append 0 n (10 - n)) ∙ ap below ten)

-- ---- the tally

-- a refused log has as many zeros
pub zero_tally : (n : ℕ) (ps : List Played) → map {B = ℕ} (λ v. 0) (tally_of n ps) ≡ replicate tally_numbers 0
zero_tally n ps = ap {B = List ℕ} (λ l. 0 ∷ 0 ∷ 0 ∷ l) (zero-places (map (times_asked ps) (below n)))

-- the answer changes at most once for each snapshot behind another
behind_le : (last : ℕ) (ps : List Played) → changes_behind last ps ≤ length ps
unfolding changes_behind
behind_le last [] = omega arith
behind_le last (p ∷ ps) = go (eqb p.0 last) (behind_le p.0 ps)
  where
    go : (b : Bool) → changes_behind p.0 ps ≤ length ps → cond b 0 1 + changes_behind p.0 ps ≤ suc (length ps)
    go true h = omega arith
    go false h = omega arith

pub changes_le : (ps : List Played) → changes ps ≤ length ps
unfolding changes
changes_le [] = omega arith
changes_le (p ∷ ps) = omega (arith, behind_le p.0 ps)
