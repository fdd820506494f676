-- The reader's outcome, field by field: what is read has up to ten flags in a fit order, and its records, as they are filed, are a diagram.
-- Assumes nothing.
use mathlib.Core.Path.{◌≡◌, refl}
use mathlib.Core.Bool.{true}
use mathlib.Core.List.{List}
use Prim.Native.Nat.{ℕ, zero, suc, ◌≤◌, ◌<◌}
use native.Mathlib.Omega.{arith}
use borrow.Author.Tests.{ltb-false, not-false}
use lib.ListN.{length, get_or, take, drop}
use Rattle.rule.specs.Bits.{bit, below}
use Rattle.rule.specs.Order.{places, fit_order}
use Rattle.rule.specs.Cells.{fit_cells, laid_in}
use Rattle.rule.specs.Diagram.{diagram}
use Rattle.rule.specs.Refusals.{Row, refusal}
use Rattle.rule.specs.Files.{flags_bit, order_bit, label_bit, records_bit, Reading, count, Outcome, stop, go, and_then, read_or, unless, field_if, read_map, read_flags, read_order, read_label, read_records, root_read, read_end, reading}
use Rattle.theory.proofs.Orders.{in_places-length, rising_fit}
use Rattle.theory.proofs.Refused.{numbered, Passed, passed}

-- ---- what holds of a file that is read on

-- refused under a number that is not 0, or read on with P
abbrev Right : (Reading → Type 0) → Outcome → Type 0
Right P (stop k) = 0 < k
Right P (go x) = P x

-- no row applies, and P holds then
module _ (P : Reading → Type 0) (rows : List Row) (h : numbered rows ≡ true) (x : Reading) where
  unless_right : (Passed rows → P x) → Right P (unless rows x)
  unfolding unless
  unless_right f = by (refusal rows) refl
    where
      by : (k : ℕ) → refusal rows ≡ k → Right P (read_or k x)
      by zero e = f (passed rows h e)
      by (suc k) e = omega arith

-- what follows is right too
then_right : (P Q : Reading → Type 0) (o : Outcome) (next : Reading → Outcome) → Right P o → ((x : Reading) → P x → Right Q (next x)) → Right Q (and_then o next)
then_right P Q (stop k) next f g = f
then_right P Q (go x) next f g = g x f

-- the same behind a field, present or absent
field_right : (P Q : Reading → Type 0) (b : ℕ) (field : Reading → Outcome) (x : Reading) (next : Reading → Outcome) → P x → Right P (field x)
    → ((x : Reading) → P x → Right Q (next x)) → Right Q (and_then (field_if b field x) next)
field_right P Q zero field x next h f g = g x h
field_right P Q (suc b) field x next h f g = then_right P Q (field x) next f g

-- ---- the fields

-- up to ten flags in a fit order, and cells of a fit length
pub record Fields (c : List ℕ) (x : Reading) : Type 0 where
  pub lent : fit_cells c ≡ true
  pub few : x.n ≤ 10
  pub ten : length x.places ≡ places
  pub order_fits : fit_order x.n x.places ≡ true

-- the records, laid in the cells, are a diagram
abbrev pub Whole : List ℕ → List ℕ → Reading → Type 0
Whole c file x = Fields c x × (diagram x.n x.places (laid_in c x.records) (count x) (root_read (get_or file 0 0) (count x)) ≡ true)

module _ (c file : List ℕ) where
  map_right : Right (Fields c) (read_map c file)
  unfolding read_map
  map_right =
      unless_right (Fields c) _ refl _ (λ p.
      record { lent = not-false _ p.0; few = omega arith; ten = in_places-length (below 0); order_fits = rising_fit 0 (omega arith) })

  flags_right : (x : Reading) → Fields c x → Right (Fields c) (read_flags file x)
  unfolding read_flags
  flags_right x h =
      unless_right (Fields c) _ refl _ (λ p.
      let few = ltb-false 10 (get_or file x.at 0) p.1.0 in
      record { lent = h.lent; few = few; ten = in_places-length (below (get_or file x.at 0)); order_fits = rising_fit (get_or file x.at 0) few })

  order_right : (x : Reading) → Fields c x → Right (Fields c) (read_order file x)
  unfolding read_order
  order_right x h = unless_right (Fields c) _ refl _ (λ p.
      record { lent = h.lent; few = h.few; ten = in_places-length (take x.n (drop x.at file)); order_fits = not-false _ p.1.0 })

  label_right : (x : Reading) → Fields c x → Right (Fields c) (read_label file x)
  unfolding read_label
  label_right x h = unless_right (Fields c) _ refl _ (λ p. record { lent = h.lent; few = h.few; ten = h.ten; order_fits = h.order_fits })

  records_right : (x : Reading) → Fields c x → Right (Fields c) (read_records c file x)
  unfolding read_records
  records_right x h = unless_right (Fields c) _ refl _ (λ p. record { lent = h.lent; few = h.few; ten = h.ten; order_fits = h.order_fits })

  end_right : (x : Reading) → Fields c x → Right (Whole c file) (read_end c file x)
  unfolding read_end
  end_right x h = unless_right (Whole c file) _ refl _ (λ p. (h, not-false _ p.1.0))

  reading_right : Right (Whole c file) (reading c file)
  unfolding reading
  reading_right =
      let map = get_or file 0 0 in
      let F = Fields c in
      let W = Whole c file in
      then_right F W (read_map c file) _ map_right (λ x h.
      field_right F W (bit map flags_bit) (read_flags file) x _ h (flags_right x h) (λ x h.
      field_right F W (bit map order_bit) (read_order file) x _ h (order_right x h) (λ x h.
      field_right F W (bit map label_bit) (read_label file) x _ h (label_right x h) (λ x h.
      field_right F W (bit map records_bit) (read_records c file) x _ h (records_right x h) (λ x h. end_right x h)))))

  -- so a file that is read is a diagram as it is filed
  pub read_whole : (x : Reading) → reading c file ≡ go x → Whole c file x
  read_whole x e = rw e at reading_right

  -- and one that is refused is so under a number
  pub read_stops : (k : ℕ) → reading c file ≡ stop k → 0 < k
  read_stops k e = rw e at reading_right
