-- What the order, the label and the records come to where they are read, and where there is no room for the records.
-- Assumes nothing.
use mathlib.Core.Path.{◌≡◌, sym, ◌∙◌}
use mathlib.Core.Bool.{Bool, false, not}
use mathlib.Core.List.{List, map}
use Prim.Native.Nat.{ℕ, ◌+◌, ◌-◌, ◌*◌, ◌≤◌, ◌<◌}
use native.Mathlib.Omega.{arith}
use borrow.Author.Tests.{not-false, ne_eqb, lt-ltb, le-ltb}
use lib.ListN.{length, get_or, take, drop}
use Rattle.rule.specs.Bits.{below}
use Rattle.rule.specs.Tests.{each}
use Rattle.rule.specs.Order.{in_places, fit_order}
use Rattle.rule.specs.Cells.{room}
use Rattle.rule.specs.Files.{longest_label, count_size, record_size, Reading, stop, go, unless, record_at, two_at, printable, read_order, read_label, read_records}

-- ---- the order

module _ (file : List ℕ) (x : Reading) (h : x.at + x.n ≤ length file) {o : List ℕ} (e : o ≡ in_places (take x.n (drop x.at file))) {a : Bool} (f : a ≡ fit_order x.n o) where
  pub order_read : not a ≡ false
      → read_order file x ≡ go (record { n = x.n; places = o; label = x.label; records = x.records; at = x.at + x.n })
  unfolding read_order unless
  order_read g = rw (← e, le-ltb (length file) (x.at + x.n) h, sym f ∙ not-false a g)

-- ---- the label

-- its length byte is tested ahead of its bytes
module _ (file : List ℕ) (x : Reading) (h : x.at < length file) where
  pub label_long : longest_label < get_or file x.at 0 → read_label file x ≡ stop 13
  unfolding read_label unless
  label_long g =
      rw (
        le-ltb (length file) (x.at + 1) (omega arith),
        ne_eqb (get_or file x.at 0) 0 (λ e. omega arith),
        lt-ltb longest_label (get_or file x.at 0) g,
      )

module _ (file : List ℕ) (x : Reading) (h : x.at < length file) {size : ℕ} (e : size ≡ get_or file x.at 0) (g : size ≡ 0 → ⊥) (short : size ≤ longest_label) (p : x.at + 1 + size ≤ length file) {a : Bool} (f : a ≡ each printable (take (x.at + 1 + size - (x.at + 1)) (drop (x.at + 1) file))) where
  is_printable : a ≡ each printable (take size (drop (x.at + 1) file))
  is_printable = let own : x.at + 1 + size - (x.at + 1) ≡ size = omega arith in rw own at f

  pub label_read_lem : not a ≡ false
      → read_label file x
      ≡ go (record { n = x.n; places = x.places; label = record { start = x.at + 1; size = size }; records = x.records; at = x.at + 1 + size })
  unfolding read_label unless
  label_read_lem q =
      rw (
        ← e,
        le-ltb (length file) (x.at + 1) (omega arith),
        ne_eqb size 0 g,
        le-ltb longest_label size short,
        le-ltb (length file) (x.at + 1 + size) p,
        sym is_printable ∙ not-false a q,
      )

-- ---- the records

module _ (c file : List ℕ) (x : Reading) (h : x.at + count_size ≤ length file) {count : ℕ} (e : count ≡ two_at file x.at) (g : count ≡ 0 → ⊥) where
  pub records_many : room c < count → read_records c file x ≡ stop 10
  unfolding read_records unless
  records_many p = rw (le-ltb (length file) (x.at + count_size) h, ← e, ne_eqb count 0 g, lt-ltb (room c) count p)

  module _ (p : count ≤ room c) where
    pub records_read_lem : x.at + count_size + count * record_size ≤ length file
        → read_records c file x
        ≡ go (record { n = x.n; places = x.places; label = x.label; records = map (record_at file (x.at + count_size)) (below count); at = x.at + count_size + count * record_size })
    unfolding read_records unless
    records_read_lem q =
        rw (
          le-ltb (length file) (x.at + count_size) h,
          ← e,
          ne_eqb count 0 g,
          le-ltb (room c) count p,
          le-ltb (length file) (x.at + count_size + count * record_size) q,
        )
