-- Refusal 10 of build, pack and the calls that make a rule in a store: the result needs more records than are free.
-- Assumes nothing.
use mathlib.Core.Path.{◌≡◌, refl, ◌∙◌}
use mathlib.Core.Bool.{Bool, true, false, cond}
use mathlib.Core.List.Memᴰ.{of_map}
use mathlib.Core.List.{List, [], ◌∷◌}
use Prim.Native.Nat.{ℕ, ◌+◌, ◌^◌, ◌<◌}
use native.Mathlib.Omega.{arith}
use borrow.Author.Tests.{ltb-true, ltb-false, lt-ltb, eq-eqb, not-false}
use lib.Dec.{eqb, ltb}
use lib.ListN.{length, get_or}
use Rattle.rule.specs.Bits.{below}
use Rattle.rule.specs.Table.{fit_length, fit_rows, tabled}
use Rattle.rule.specs.Level.{size}
use Rattle.rule.specs.Order.{places, flags, fit_order, packed}
use Rattle.rule.specs.Cells.{room}
use Rattle.rule.specs.Walk.{table_of}
use Rattle.rule.specs.Sound.{sound}
use Rattle.rule.specs.Reduced.{DrawnAs}
use Rattle.rule.specs.Results.{digit, Making, flag, join, choose, fix, made_in, needed, free}
use Rattle.rule.specs.Refusals.{refusal, flag_count, table_length, table_read, order_places, cells, records, workspace, build_rows, own_rows, making_rows, pack_rows}
use Rattle.rule.specs.Reply.{Reply, number_of}
use Rattle.rule.specs.Calls.{State, Build, Make, Pack}
use Rattle.rule.specs.Demands.{Fit, NoRoomFor}
use Rattle.theory.proofs.Tests.{in_each_lem}
use Rattle.theory.proofs.Bits.{bit_lt}
use Rattle.theory.proofs.Cofactor.{length-cofactor, row_lt, cofactor_rows}
use Rattle.theory.proofs.Sound.{sound_shape}
use Rattle.theory.proofs.Walks.{smaller, length-tabled, length_table, fit_table}
use Rattle.theory.proofs.Orders.{fit_order_is, packed_is}
use Rattle.theory.proofs.Refused.{Passed, others, last_given}
use Rattle.demands.proofs.Stands.{number_was}
use Rattle.demands.proofs.Counts.{counts}
use Rattle.demands.proofs.Needs.{needs}

-- ---- build and pack

pub no_room_built : (n used root : ℕ) (t order c d e : List ℕ) (r : Reply) → length order ≡ places → Build n t order c r d → number_of r ≡ 10
    → DrawnAs n order t e used root → room c < used
no_room_built n used root t order c d e r l b q x =
    let z = number_was (refusal (build_rows n t order c)) _ b.answer q in
    let ((few, (rows, (bits, (o, _)))), g) =
    last_given 9 (flag_count n ∷ table_length n t ∷ table_read t ∷ order_places n order ∷ cells c ∷ []) (ltb (room c) (size (flags n order) t)) refl z in
    let f : Fit n order t =
    record { few = ltb-false 10 n few; kept_in = l; order_fits = not-false _ o; rows = not-false _ rows; bits = not-false _ bits } in
    omega (arith, counts n order t f e used root x, ltb-true (room c) (size (flags n order) t) g)

pub no_room_packed : (n used root : ℕ) (t order c w d x e : List ℕ) (r : Reply) → Pack n t c w r d x → number_of r ≡ 10 → length order ≡ places
    → fit_order n order ≡ true → DrawnAs n order t e used root → room c < used
no_room_packed n used root t order c w d x e r b q l o y =
    let z = number_was (refusal (pack_rows n t c w)) _ b.answer q in
    let ((few, (rows, (bits, _))), g) =
    last_given 9 (flag_count n ∷ table_length n t ∷ table_read t ∷ cells c ∷ workspace n w ∷ []) (ltb (room c) (size (packed n t) t)) refl z in
    let f : Fit n order t =
    record { few = ltb-false 10 n few; kept_in = l; order_fits = o; rows = not-false _ rows; bits = not-false _ bits } in
    omega (
      arith,
      counts n order t f e used root y,
      (packed_is n t).fewest (flags n order) (fit_order_is n order o),
      ltb-true (room c) (size (packed n t) t) g,
    )

-- ---- a rule made in a store

-- a table as a call makes it: 2^n rows of 0 and 1
abbrev Made : ℕ → List ℕ → Type 0
Made n t = (length t ≡ 2 ^ n) × (fit_rows t ≡ true)

-- tables by their rows
tabled_made : (n : ℕ) (f : ℕ → ℕ) → ((r : ℕ) → f r < 2) → Made n (tabled n f)
unfolding fit_rows
tabled_made n f h =
    (length-tabled n f, in_each_lem _ _ (λ x i. let (r, j, e) = of_map f (below (2 ^ n)) i in lt-ltb x 2 (omega (arith, h r))))

digit_lt : (code a b : ℕ) → digit code a b < 2
digit_lt code a b = omega arith

cond_lt : (x : Bool) (a b : ℕ) → a < 2 → b < 2 → cond x a b < 2
cond_lt true a b p q = p
cond_lt false a b p q = q

-- each row of the table of a store's node is below 2
node_rows_lem : (s : State) (c : List ℕ) (m : ℕ) → sound s.n s.places c s.used ≡ true → ltb (s.used + 1) m ≡ false → fit_rows (table_of s.n c m) ≡ true
node_rows_lem s c m x h = fit_table (smaller (sound_shape s.n s.places c s.used x)) s.n m (ltb-false (s.used + 1) m h)

-- what a call makes of rules that are there
made : (s : State) (c : List ℕ) (x : Making) → sound s.n s.places c s.used ≡ true → Passed (own_rows s.n s.used x) → Made s.n (made_in s.n c x)
made s c (flag i) v p = tabled_made s.n _ (λ r. bit_lt r i)
made s c (join code f g) v p = tabled_made s.n _ (λ r. digit_lt code (get_or (table_of s.n c f) r 0) (get_or (table_of s.n c g) r 0))
made s c (choose f g h) v (_, (pg, (ph, _))) =
    tabled_made s.n _ (λ r.
    cond_lt (eqb (get_or (table_of s.n c f) r 0) 1) (get_or (table_of s.n c g) r 0) (get_or (table_of s.n c h) r 0)
    (row_lt (table_of s.n c g) (node_rows_lem s c g v pg) r)
    (row_lt (table_of s.n c h) (node_rows_lem s c h v ph) r))
made s c (fix m i b) v (pm, _) = (
  length-cofactor i b (table_of s.n c m) ∙ length_table s.n c m,
  cofactor_rows i b (table_of s.n c m) (node_rows_lem s c m v pm),
)

own_others : (n used : ℕ) (x : Making) → others 10 (own_rows n used x) ≡ true
own_others n used (flag i) = refl
own_others n used (join code f g) = refl
own_others n used (choose f g h) = refl
own_others n used (fix m i b) = refl

pub no_room_made : (s s' : State) (c d : List ℕ) (x : Making) (r : Reply) → length s.places ≡ places → Make s c x r s' d → number_of r ≡ 10
    → NoRoomFor s c (made_in s.n c x)
unfolding fit_length
no_room_made s s' c d x r l b q e more m sound-e le kept hm is-t =
    let t = made_in s.n c x in
    let have = free c s.used in
    let need = needed s.n s.places c s.used t in
    let z = number_was (refusal (making_rows s.n s.places c s.used x)) _ b.answer q in
    let ((few, (o, (_, (v, p)))), g) =
    last_given 9
    (flag_count s.n ∷ order_places s.n s.places ∷ cells c ∷ records s.n s.places c s.used ∷ own_rows s.n s.used x)
    (ltb have need)
    (own_others s.n s.used x)
    z in
    let sound-c = not-false _ v in
    let (rows, bits) = made s c x sound-c p in
    let f : Fit s.n s.places t =
    record { few = ltb-false 10 s.n few; kept_in = l; order_fits = not-false _ o; rows = eq-eqb (length t) (2 ^ s.n) rows; bits = bits } in
    omega (arith, needs s.n s.places t f c e s.used more m sound-c sound-e le kept hm is-t, ltb-true have need g)
