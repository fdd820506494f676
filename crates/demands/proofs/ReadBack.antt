-- A written file, read field by field to what was written.
-- Assumes nothing.
use mathlib.Core.Path.{◌≡◌, refl, sym, ap, ◌∙◌}
use mathlib.Core.Bool.{true, false, cond, not}
use mathlib.Core.List.{List, [], ◌∷◌, ◌++◌, map, append_assoc}
use Prim.Native.Nat.{ℕ, zero, suc, ◌+◌, ◌-◌, ◌*◌, ◌≤◌, ◌<◌}
use native.Mathlib.Nat.{add-zero}
use native.Mathlib.Omega.{arith}
use borrow.Author.Tests.{le-ltb, ne_eqb}
use lib.Dec.{eqb}
use lib.ListN.{length, get_or, take, drop, length-append}
use lib.Seq.{length-take-le, take_at, drop-append-add}
use Rattle.rule.specs.Bits.{bit, below}
use Rattle.rule.specs.Tests.{each}
use Rattle.rule.specs.Order.{places, flags, in_places, rising, fit_order}
use Rattle.rule.specs.Cells.{fit_cells, room, RecordValues, laid_in}
use Rattle.rule.specs.Diagram.{diagram}
use Rattle.rule.specs.Refusals.{Row}
use Rattle.rule.specs.Files.{flags_bit, order_bit, label_bit, records_bit, yes_bit, longest_label, count_size, record_size, two, two_at, record_at, record_bytes, Part, bytes_of, no_part, file_map, printable, bit_if, if_some, map_byte, Reading, stop, go, and_then, unless, field_if, nothing_read, read_map, read_flags, read_order, read_label, read_records, root_read, read_end, reading}
use Rattle.cursor.proofs.Head.{flags_read}
use Rattle.fields.proofs.Fields.{order_read, label_read_lem, records_many, records_read_lem}
use Rattle.encoding.proofs.Puts.{length_bytes}
use Rattle.theory.proofs.Refused.{Passed, none_applies}
use Rattle.demands.proofs.FileBytes.{places_back, behind, two_at_lem, records_at}

-- a field is read where none of its rows applies
read_on : (rows : List Row) (x : Reading) → Passed rows → unless rows x ≡ go x
unfolding unless
read_on rows x p = rw (none_applies rows p)

-- ---- the bit map

-- fit, and its bits
map_bits : (l : List ℕ) (used root : ℕ)
    → ((file_map (map_byte l used root)).0 ≡ false)
    × (bit (map_byte l used root) flags_bit ≡ 1)
    × (bit (map_byte l used root) order_bit ≡ 1)
    × (bit (map_byte l used root) label_bit ≡ bit_if (length l) 1)
    × (bit (map_byte l used root) records_bit ≡ bit_if used 1)
    × (bit (map_byte l used root) yes_bit ≡ cond (eqb used 0) (bit_if root 1) 0)
unfolding bit
map_bits [] zero zero = (refl, refl, refl, refl, refl, refl)
map_bits [] zero (suc root) = (refl, refl, refl, refl, refl, refl)
map_bits [] (suc k) root = rw (ne_eqb (suc k) 0 (λ (e : suc k ≡ 0). omega arith)) (refl, refl, refl, refl, refl, refl)
map_bits (a ∷ l) zero zero = (refl, refl, refl, refl, refl, refl)
map_bits (a ∷ l) zero (suc root) = (refl, refl, refl, refl, refl, refl)
map_bits (a ∷ l) (suc k) root = rw (ne_eqb (suc k) 0 (λ (e : suc k ≡ 0). omega arith)) (refl, refl, refl, refl, refl, refl)

-- the root, by bit 4 where there are no records
pub root_back : (l : List ℕ) (used root : ℕ) → (0 < used → root ≡ used + 1) × (used ≡ 0 → root ≤ 1) → root_read (map_byte l used root) used ≡ root
root_back l zero root (f, g) = (map_bits l zero root).5 ∙ one root (g refl)
  where
    one : (r : ℕ) → r ≤ 1 → bit_if r 1 ≡ r
    one zero h = refl
    one (suc r) h = omega arith
root_back l (suc k) root (f, g) = sym (f (omega arith))

-- ---- the fields

-- a file read so far
abbrev pub so_far : ℕ → List ℕ → Part → List RecordValues → ℕ → Reading
so_far n o label rs at = record { n = n; places = o; label = label; records = rs; at = at }

-- where a label is read
abbrev pub label_at : ℕ → List ℕ → Part
label_at at [] = no_part
label_at at (a ∷ l) = record { start = at + 1; size = length (a ∷ l) }

abbrev label_field : List ℕ → List ℕ
label_field l = if_some (length l) (length l ∷ l)

abbrev record_field : List RecordValues → List ℕ
record_field rs = if_some (length rs) (two (length rs) ++ record_bytes rs)

-- the label's bytes
label_bytes_lem : (p l rest : List ℕ) (at : ℕ) → length p ≡ at → bytes_of (label_at at l) (p ++ (label_field l ++ rest)) ≡ l
label_bytes_lem p [] rest at e = refl
label_bytes_lem p (a ∷ l) rest at e =
    let own = a ∷ l in
    let past : at + 1 ≡ length p + 1 = omega arith in
    ap (λ (k : ℕ). take (length own) (drop k (p ++ (length own ∷ own ++ rest)))) past
    ∙ ap (take (length own)) (drop-append-add p (length own ∷ own ++ rest) 1)
    ∙ take_at own rest (length own) refl

module _ (file : List ℕ) (n : ℕ) (o p : List ℕ) (at : ℕ) (front : length p ≡ at) where
  label_back : (l rest : List ℕ) → file ≡ p ++ (label_field l ++ rest) → length l ≤ longest_label → each printable l ≡ true
      → field_if (bit_if (length l) 1) (read_label file) (so_far n o no_part [] at) ≡ go (so_far n o (label_at at l) [] (at + length (label_field l)))
  label_back [] rest e short print = rw add-zero
  label_back (a ∷ l) rest e short print =
      let own = a ∷ l in
      let size : get_or file at 0 ≡ length own = rw e (behind p (length own ∷ own ++ rest) 0 at (omega arith)) in
      let bytes : take (length own) (drop (at + 1) file) ≡ own = rw e (label_bytes_lem p own rest at front) in
      let long : length file ≡ at + 1 + length own + length rest = rw e (simp length-append (omega arith)) in
      let exact : at + 1 + length own - (at + 1) ≡ length own = omega arith in
      let end : at + 1 + length own ≡ at + length (label_field own) = omega arith in
      let fits : each printable (take (at + 1 + length own - (at + 1)) (drop (at + 1) file)) ≡ true = rw (exact, bytes) print in
      label_read_lem file (so_far n o no_part [] at) (omega arith) (sym size) (λ z. omega arith) short (omega arith) (sym fits) refl ∙ rw end

  -- where there are records
  module _ (r : RecordValues) (rs : List RecordValues) (e : file ≡ p ++ record_field (r ∷ rs)) where
    counted : length (r ∷ rs) ≡ two_at file at
    counted = rw e (sym (two_at_lem p (length (r ∷ rs)) (record_bytes (r ∷ rs)) at (sym front)))

    ended : length file ≡ at + length (record_field (r ∷ rs))
    ended = rw e (simp length-append (omega arith))

  module _ (c : List ℕ) (label : Part) where
    records_back : (rs : List RecordValues) → file ≡ p ++ record_field rs → length rs ≤ room c
        → field_if (bit_if (length rs) 1) (read_records c file) (so_far n o label [] at) ≡ go (so_far n o label rs (at + length (record_field rs)))
    records_back [] e h = rw add-zero
    records_back (r ∷ rs) e h =
        let own = r ∷ rs in
        let k = length own in
        let start : length (p ++ two k) ≡ at + count_size + 0 * record_size = simp length-append (omega arith) in
        let records : map (record_at file (at + count_size)) (below k) ≡ own =
        rw (e, ← append_assoc p (two k) (record_bytes own)) (records_at own (p ++ two k) (at + count_size) 0 start) in
        let end : at + count_size + k * record_size ≡ at + length (record_field own) = omega (arith, length_bytes own) in
        let past = ended r rs e in
        records_read_lem c file (so_far n o label [] at) (omega arith) (counted r rs e) (λ z. omega arith) h (omega arith) ∙ rw (records, end)

    -- and no room for them
    records_short : (rs : List RecordValues) → file ≡ p ++ record_field rs → room c < length rs
        → field_if (bit_if (length rs) 1) (read_records c file) (so_far n o label [] at) ≡ stop 10
    records_short [] e h = absurd (omega arith)
    records_short (r ∷ rs) e h =
        records_many c file (so_far n o label [] at) (omega (arith, ended r rs e)) (counted r rs e) (λ z. omega arith) h

-- ---- the whole file

-- a rule that the writer takes, by its records, and its file
pub record Taken (n root : ℕ) (o l : List ℕ) (rs : List RecordValues) (file : List ℕ) : Type 0 where
  pub few : n ≤ 10
  pub ten : length o ≡ places
  pub fit : fit_order n o ≡ true
  pub short : length l ≤ longest_label
  pub print : each printable l ≡ true
  pub bytes : file ≡ map_byte l (length rs) root ∷ n ∷ (flags n o ++ (label_field l ++ record_field rs))

module _ {n root : ℕ} {o l : List ℕ} {rs : List RecordValues} {file : List ℕ} (t : Taken n root o l rs file) where
  front : length (flags n o) ≡ n
  front = length-take-le n o (omega arith)

  long : length file ≡ 2 + n + length (label_field l) + length (record_field rs)
  long = rw t.bytes (simp length-append (omega (arith, front)))

  pub map_is : get_or file 0 0 ≡ map_byte l (length rs) root
  map_is = rw t.bytes

  -- before the label
  head : List ℕ
  head = map_byte l (length rs) root ∷ n ∷ flags n o

  pub label_is : bytes_of (label_at (2 + n) l) file ≡ l
  unfolding head
  label_is = rw t.bytes (label_bytes_lem head l (record_field rs) (2 + n) (omega (arith, front)))

  n_back : read_flags file nothing_read ≡ go (so_far n (rising n) no_part [] 2)
  n_back =
      let n-is : get_or file 1 0 ≡ n = rw t.bytes in
      flags_read file nothing_read (omega (arith, long)) (sym n-is) t.few refl

  order_back : read_order file (so_far n (rising n) no_part [] 2) ≡ go (so_far n o no_part [] (2 + n))
  order_back =
      let own : in_places (flags n o) ≡ o = places_back n o t.few t.ten t.fit in
      let order : in_places (take n (drop 2 file)) ≡ o = rw (t.bytes, take_at (flags n o) (label_field l ++ record_field rs) n front) own in
      order_read file (so_far n (rising n) no_part [] 2) (omega (arith, long)) (sym order) (sym t.fit) refl

  module _ (c : List ℕ) (lent : fit_cells c ≡ true) where
    map_back : read_map c file ≡ go nothing_read
    unfolding read_map
    map_back =
        rw map_is (read_on _ _ (ap not lent, (le-ltb (length file) 1 (omega (arith, long)), ((map_bits l (length rs) root).0, tt))))

    -- up to the records
    reading_rest : reading c file
        ≡ and_then (field_if (bit_if (length rs) 1) (read_records c file) (so_far n o (label_at (2 + n) l) [] (2 + n + length (label_field l)))) (read_end c file)
    unfolding reading head
    reading_rest =
        let (_, b₀, b₁, b₂, b₃, _) = map_bits l (length rs) root in
        let label = label_back file n o head (2 + n) (omega (arith, front)) l (record_field rs) t.bytes t.short t.print in
        rw (map_is, map_back, b₀, n_back, b₁, order_back, b₂, label, b₃)

    -- the bytes before the records, and these behind them
    before : length (head ++ label_field l) ≡ 2 + n + length (label_field l)
    unfolding head
    before = simp length-append (omega (arith, front))

    split : file ≡ head ++ label_field l ++ record_field rs
    unfolding head
    split = t.bytes ∙ sym (append_assoc head (label_field l) (record_field rs))

    pub reading_back : length rs ≤ room c → diagram n o (laid_in c rs) (length rs) (root_read (map_byte l (length rs) root) (length rs)) ≡ true
        → reading c file ≡ go (so_far n o (label_at (2 + n) l) rs (length file))
    unfolding read_end
    reading_back held d =
        let records = records_back file n o (head ++ label_field l) _ before c (label_at (2 + n) l) rs split held in
        reading_rest
        ∙ rw (records, ← long, map_is) (read_on _ _ (le-ltb (length file) (length file) (omega arith), (ap not d, tt)))

    -- or they have no room
    pub reading_short : room c < length rs → reading c file ≡ stop 10
    reading_short h = reading_rest ∙ rw (records_short file n o (head ++ label_field l) _ before c (label_at (2 + n) l) rs split h)
