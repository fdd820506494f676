-- What stands in the bytes of an order and of records: both read from their bytes.
-- Assumes nothing.
use mathlib.Core.Path.{◌≡◌, refl, sym, ap, ap₂, ◌∙◌}
use mathlib.Core.Bool.{true}
use mathlib.Core.List.{List, [], ◌∷◌, ◌++◌, map, append_assoc, flat_map}
use Prim.Native.Nat.{ℕ, suc, ◌+◌, ◌-◌, ◌*◌, ◌/◌, ◌%◌, ◌≤◌}
use native.Mathlib.Omega.{arith}
use lib.ListN.{length, get_or, length-append, length-replicate}
use lib.Seq.{length-take-le, get_or-append-add, ext_get_or}
use Rattle.rule.specs.Bits.{from}
use Rattle.rule.specs.Order.{places, flags, in_places, fit_order}
use Rattle.rule.specs.Cells.{RecordValues}
use Rattle.rule.specs.Files.{record_size, two, two_at, in_bytes, record_at, record_bytes}
use Rattle.rule.proofs.Zeros.{padded}
use Rattle.theory.proofs.Orders.{fit_order_rest, in_places_is}

-- ---- the order

-- a fit order, by its flags
pub places_back : (n : ℕ) (o : List ℕ) → n ≤ 10 → length o ≡ places → fit_order n o ≡ true → in_places (flags n o) ≡ o
places_back n o few ten fit =
    let front : length (flags n o) ≡ n = length-take-le n o (omega arith) in
    in_places_is (flags n o) (omega arith)
    ∙ ext_get_or 0 _ o (simp (length-append, length-replicate) (omega arith))
    (λ i h. padded o n (10 - length (flags n o)) (omega arith) (fit_order_rest n o fit) i)

-- ---- the bytes of records

-- an entry behind the first part of a list
pub behind : (p q : List ℕ) (i k : ℕ) → k ≡ length p + i → get_or (p ++ q) k 0 ≡ get_or q i 0
behind p q i k e = ap (λ (j : ℕ). get_or (p ++ q) j 0) e ∙ get_or-append-add p q i 0

two_back : (x : ℕ) → x % 256 + 256 * (x / 256) ≡ x
two_back x = omega arith

pub two_at_lem : (p : List ℕ) (x : ℕ) (q : List ℕ) (k : ℕ) → k ≡ length p → two_at (p ++ (two x ++ q)) k ≡ x
two_at_lem p x q k e = rw (behind p (two x ++ q) 0 k (omega arith), behind p (two x ++ q) 1 (k + 1) (omega arith)) (two_back x)

-- records that stand behind p, from the one of index a on
pub records_at : (rs : List RecordValues) (p : List ℕ) (start a : ℕ) → length p ≡ start + a * record_size
    → map (record_at (p ++ record_bytes rs) start) (from a (length rs)) ≡ rs
unfolding flat_map from
records_at [] p start a e = refl
records_at (r ∷ rs) p start a e =
    let at = start + a * record_size in
    let own = in_bytes r ++ record_bytes rs in
    let split : p ++ own ≡ p ++ in_bytes r ++ record_bytes rs = sym (append_assoc p (in_bytes r) (record_bytes rs)) in
    let next : length (p ++ in_bytes r) ≡ start + suc a * record_size = omega (arith, length-append p (in_bytes r)) in
    ap₂ {C = List RecordValues} ◌∷◌
    (rw (
      behind p own 0 at (omega arith),
      behind p own 1 (at + 1) (omega arith),
      behind p own 2 (at + 1 + 1) (omega arith),
      behind p own 3 (at + 3) (omega arith),
      behind p own 4 (at + 3 + 1) (omega arith),
      two_back r.low,
      two_back r.high,
    ))
    (ap (λ (file : List ℕ). map (record_at file start) (from (suc a) (length rs))) split ∙ records_at rs (p ++ in_bytes r) start (suc a) next)
