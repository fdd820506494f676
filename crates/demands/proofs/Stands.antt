-- A diagram stands for its table, and tabulates to it: so do the accepted results of build and pack, and what check, the writer and print accept.
-- Assumes nothing.
use mathlib.Core.Path.{◌≡◌, refl, sym, ap, subst, ◌∙◌}
use mathlib.Core.Bool.{Bool, true, false, not, ◌&&◌, ◌||◌}
use mathlib.Core.List.{List, [], ◌∷◌}
use Prim.Native.Nat.{ℕ, zero, suc, ◌+◌, ◌^◌, ◌≤◌}
use native.Mathlib.Omega.{arith}
use borrow.Author.Tests.{ltb-false, le-ltb, leb-true, le-leb, eq-eqb, not-false}
use lib.Dec.{leb}
use lib.ListN.{length}
use Rattle.rule.specs.Table.{fit_length}
use Rattle.rule.specs.Level.{size}
use Rattle.rule.specs.Order.{places, flags, fit_order, in_places, packed}
use Rattle.rule.specs.Cells.{fit_cells, room}
use Rattle.rule.specs.Walk.{table_of}
use Rattle.rule.specs.Sound.{sound}
use Rattle.rule.specs.Diagram.{all_reached, diagram}
use Rattle.rule.specs.Sequence.{drawing}
use Rattle.rule.specs.Results.{root_by}
use Rattle.rule.specs.Refusals.{refusal, result, build_rows, check_rows, tabulate_rows, pack_rows}
use Rattle.rule.specs.Reply.{Reply, reply, number_of, Accepted, leaves}
use Rattle.rule.specs.Calls.{Build, Check, Pack}
use Rattle.rule.specs.Files.{write_rows, Writes}
use Rattle.rule.specs.Sheet.{sheet, print_rows, Prints}
use Rattle.rule.specs.Demands.{Fit, StandsFor, Gives}
use Rattle.theory.proofs.Tests.{and_split, and_join}
use Rattle.theory.proofs.Reach.{diagram_view, view_diagram}
use Rattle.theory.proofs.Sound.{shape_sound}
use Rattle.theory.proofs.Reduced.{diagram_reduced}
use Rattle.theory.proofs.Refused.{Passed, passed, split_passed}
use Rattle.theory.proofs.Drawing.{drawing-length, drawn_whole, drawn_table}
use Rattle.theory.proofs.Orders.{in_places-length, packed_fit, packed_flags}

-- a reply that is accepted: there was no refusal, and the values are the call's
pub accepted_reply : (k : ℕ) {r : Reply} {values given : List ℕ} → r ≡ reply k values → Gives r given → (k ≡ 0) × (values ≡ given)
accepted_reply zero e q = (refl, cc)
accepted_reply (suc k) e q = let z : ◌≡◌ {A = ℕ} 0 1 = cc in absurd (omega arith)

pub accepted_zero : (k : ℕ) (values : List ℕ) {r : Reply} → r ≡ reply k values → Accepted r → k ≡ 0
accepted_zero zero values e h = refl
accepted_zero (suc k) values e h = absurd (rw e at h)

pub zero_accepted : (k : ℕ) (values : List ℕ) {r : Reply} → r ≡ reply k values → k ≡ 0 → Accepted r
zero_accepted k values e z = subst Accepted (sym (e ∙ ap (λ (i : ℕ). reply i values) z)) tt

-- a reply has its refusal's number
pub number_of_lem : (k : ℕ) (values : List ℕ) → number_of (reply k values) ≡ k
number_of_lem zero values = refl
number_of_lem (suc k) values = refl

pub number_was : (k : ℕ) (values : List ℕ) {r : Reply} {j : ℕ} → r ≡ reply k values → number_of r ≡ j → k ≡ j
number_was k values e q = sym (ap number_of e ∙ number_of_lem k values) ∙ q

module _ (n : ℕ) (order c : List ℕ) (used root : ℕ) (few : n ≤ 10) (o : fit_order n order ≡ true) (f : fit_cells c ≡ true)
    (d : diagram n order c used root ≡ true) where
  -- no row of tabulate applies
  tabulated : (bytes : List ℕ) → length bytes ≡ 2 ^ n → refusal (tabulate_rows n order c used root bytes) ≡ 0
  unfolding fit_length
  tabulated bytes l =
      let v = diagram_view n order c used root d in
      rw (
        le-ltb 10 n few,
        eq-eqb (length bytes) (2 ^ n) l,
        o,
        f,
        shape_sound n order c used v.cells,
        le-ltb (used + 1) root v.root_is,
      )

  pub stands : StandsFor n order (table_of n c root) c used root
  stands =
      let (p, q) = diagram_reduced n order c used root (diagram_view n order c used root d) in
      record {
        drawn = record { ordered = p; reduced = q; table = refl };
        tabulates = λ bytes after r l x.
            let z = tabulated bytes l in (
              zero_accepted (refusal (tabulate_rows n order c used root bytes)) [] x.answer z,
              x.bytes_are ∙ ap (λ (k : ℕ). leaves k (table_of n c root) bytes) z,
            );
      }

-- so does a table's drawing
drawing_stands : {n : ℕ} {order t : List ℕ} → Fit n order t → (c : List ℕ) → fit_cells c ≡ true → size (flags n order) t ≤ room c
    → StandsFor n order t (drawing n order t c) (size (flags n order) t) (root_by (size (flags n order) t) t)
unfolding fit_cells
drawing_stands {n} {order} {t} f c lent space =
    subst (λ (u : List ℕ). StandsFor n order u (drawing n order t c) (size (flags n order) t) (root_by (size (flags n order) t) t)) (drawn_table f c space)
    (stands n order (drawing n order t c) _ _ f.few f.order_fits (rw (drawing-length n order t c) lent)
    (view_diagram n order (drawing n order t c) _ _ (drawn_whole f c space)))

-- cells d that are the drawing of t in cells that hold it, with its node count and root
pub record IsDrawing (n : ℕ) (order t : List ℕ) (used root : ℕ) (d : List ℕ) : Type 0 where
  pub fit : Fit n order t
  pub cells : List ℕ
  pub lent : fit_cells cells ≡ true
  pub space : size (flags n order) t ≤ room cells
  pub used_is : used ≡ size (flags n order) t
  pub root_is : root ≡ root_by (size (flags n order) t) t
  pub drawn : d ≡ drawing n order t cells

pub is_drawing_stands : {n used root : ℕ} {order t d : List ℕ} → IsDrawing n order t used root d → StandsFor n order t d used root
is_drawing_stands x = rw (x.used_is, x.root_is, x.drawn) (drawing_stands x.fit x.cells x.lent x.space)

-- an accepted build left it
pub built_drawing : (n nodes root : ℕ) (t order c d : List ℕ) (r : Reply) → length order ≡ places → Build n t order c r d → Gives r (nodes ∷ root ∷ [])
    → IsDrawing n order t nodes root d
built_drawing n nodes root t order c d r l b g =
    let (z, v) = accepted_reply (refusal (build_rows n t order c)) b.answer g in
    let (few, (rows, (bits, (o, (f, (m, _)))))) = passed (build_rows n t order c) refl z in
    record {
      fit = record { few = ltb-false 10 n few; kept_in = l; order_fits = not-false _ o; rows = not-false _ rows; bits = not-false _ bits };
      cells = c;
      lent = not-false _ f;
      space = ltb-false _ _ m;
      used_is = cc;
      root_is = cc;
      drawn = b.cells ∙ ap (λ (k : ℕ). leaves k (drawing n order t c) c) z;
    }

-- and so did an accepted pack, under its order
pub packed-drawing : (n nodes root : ℕ) (t order c w d x : List ℕ) (r : Reply) → Pack n t c w r d x → Gives r (nodes ∷ root ∷ order)
    → IsDrawing n order t nodes root d
packed-drawing n nodes root t order c w d x r b g =
    let (z, v) = accepted_reply (refusal (pack_rows n t c w)) b.answer g in
    let (p, (rows, (bits, (f, (_, (m, _)))))) = passed (pack_rows n t c w) refl z in
    let few = ltb-false 10 n p in
    let nodes_is : nodes ≡ size (packed n t) t = cc in
    let root_is : root ≡ root_by (size (packed n t) t) t = cc in
    let order_is : order ≡ in_places (packed n t) = cc in
    let same : flags n order ≡ packed n t = ap (flags n) order_is ∙ packed_flags n t few in
    record {
      fit = record {
        few = few;
        kept_in = ap length order_is ∙ in_places-length (packed n t);
        order_fits = ap (fit_order n) order_is ∙ packed_fit n t few;
        rows = not-false _ rows;
        bits = not-false _ bits;
      };
      cells = c;
      lent = not-false _ f;
      space = rw same (ltb-false _ _ m);
      used_is = rw same nodes_is;
      root_is = rw same root_is;
      drawn = b.cells ∙ ap (λ (k : ℕ). leaves k (drawing n (in_places (packed n t)) t c) c) z ∙ ap (λ (o : List ℕ). drawing n o t c) (sym order_is);
    }

pub built : (n nodes root : ℕ) (t order c d : List ℕ) (r : Reply) → length order ≡ places → Build n t order c r d → Gives r (nodes ∷ root ∷ [])
    → StandsFor n order t d nodes root
built n nodes root t order c d r l b g = is_drawing_stands (built_drawing n nodes root t order c d r l b g)

pub packs : (n nodes root : ℕ) (t order c w d x : List ℕ) (r : Reply) → Pack n t c w r d x → Gives r (nodes ∷ root ∷ order) → StandsFor n order t d nodes root
packs n nodes root t order c w d x r b g = is_drawing_stands (packed-drawing n nodes root t order c w d x r b g)

-- the test of a diagram's records, with a root up to the last
neither : (s a : Bool) → (not s || (true && not a)) ≡ false → (s ≡ true) × (a ≡ true)
neither true true e = (refl, refl)
neither true false e = let z : ◌≡◌ {A = ℕ} 0 1 = cc in absurd (omega arith)
neither false a e = let z : ◌≡◌ {A = ℕ} 0 1 = cc in absurd (omega arith)

-- what check's rows let pass is a diagram
pub passed_diagram : (n used root : ℕ) (order c : List ℕ) → Passed (check_rows n order c used root) → diagram n order c used root ≡ true
unfolding diagram
passed_diagram n used root order c (few, (o, (f, (q, (m, _))))) =
    let low = le-leb root (used + 1) (ltb-false (used + 1) root m) in
    let (s, a) = neither (sound n order c used) (all_reached c used root) (rw low at q) in
    and_join s (and_join low a)

-- and they let every diagram pass
pub diagram_passed : (n used root : ℕ) (order c : List ℕ) → n ≤ 10 → fit_order n order ≡ true → fit_cells c ≡ true → diagram n order c used root ≡ true
    → Passed (check_rows n order c used root)
unfolding diagram
diagram_passed n used root order c few o f d =
    let (s, e) = and_split (sound n order c used) _ d in
    let (low, a) = and_split (leb root (used + 1)) _ e in
    let records : (not (sound n order c used) || (leb root (used + 1) && not (all_reached c used root))) ≡ false = rw (s, low, a) in
    (le-ltb 10 n few, (ap not o, (ap not f, (records, (le-ltb (used + 1) root (leb-true root (used + 1) low), tt)))))

-- so it stands for its table
passed_stands : (n used root : ℕ) (order c : List ℕ) → Passed (check_rows n order c used root) → StandsFor n order (table_of n c root) c used root
passed_stands n used root order c (few, (o, (f, p))) =
    stands n order c used root (ltb-false 10 n few) (not-false _ o) (not-false _ f) (passed_diagram n used root order c (few, (o, (f, p))))

pub checked : (n nodes used root : ℕ) (order c : List ℕ) (r : Reply) → length order ≡ places → Check n order c used root r → Gives r (nodes ∷ [])
    → (nodes ≡ used) × StandsFor n order (table_of n c root) c nodes root
checked n nodes used root order c r l b g =
    let (z, v) = accepted_reply (refusal (check_rows n order c used root)) b g in
    let nodes_is : nodes ≡ used = cc in
    (nodes_is, rw nodes_is (passed_stands n used root order c (passed (check_rows n order c used root) refl z)))

-- the writer's rows begin with check's
pub written : (n used root k : ℕ) (order c label bytes after : List ℕ) (r : Reply) → length order ≡ places → Writes n order c used root label bytes r after
    → Gives r (k ∷ []) → StandsFor n order (table_of n c root) c used root
written n used root k order c label bytes after r l b g =
    let (z, v) = accepted_reply (refusal (write_rows n order c used root label bytes)) b.answer g in
    let (few, (o, (f, (q, (m, _))))) = passed (write_rows n order c used root label bytes) refl z in
    passed_stands n used root order c (few, (o, (f, (q, (m, tt)))))

-- and so do those of print
pub printed : (n used root pages : ℕ) (order c bytes after : List ℕ) (r : Reply) → length order ≡ places → Prints n order c used root bytes r after
    → Gives r (pages ∷ []) → StandsFor n order (table_of n c root) c used root
printed n used root pages order c bytes after r l b g =
    let rows = check_rows n order c used root in
    let (z, v) = accepted_reply (refusal (print_rows n order c used root bytes)) b.answer g in
    passed_stands n used root order c (passed rows refl (split_passed rows (result (length (sheet c used)) (length bytes) ∷ []) refl z).0)
