-- The cells that a table has under an order (`drawing` of crate rule): where there is room they are its diagram, their records stand in sequence, and no other
-- cells of this length are and do.
-- Assumes nothing.
use mathlib.Core.Path.{◌≡◌, refl, sym, ap, ◌∙◌, subst}
use mathlib.Core.Logic.{◌⊎◌, inl, inr}
use mathlib.Core.Bool.{true}
use mathlib.Core.List.{List, [], ◌∷◌, append-nil}
use Prim.Native.Nat.{ℕ, zero, suc, ◌+◌, ◌^◌, ◌≤◌, ◌<◌}
use native.Mathlib.Nat.{eq-or-lt_of_le}
use native.Mathlib.Omega.{arith}
use borrow.Author.Tests.{eqb-true}
use lib.ListN.{length, get_or, drop, replicate, length-map, length-drop, get_or-map}
use lib.Seq.{get_or-drop}
use Rattle.rule.specs.Table.{fit_length, fit_rows, fixings}
use Rattle.rule.specs.Level.{nodes_of, size}
use Rattle.rule.specs.Order.{flags, level}
use Rattle.rule.specs.Cells.{room, flag_at, low_at, high_at, RecordValues}
use Rattle.rule.specs.Walk.{table_of}
use Rattle.rule.specs.Reduced.{DrawnAs}
use Rattle.rule.specs.Results.{root_by}
use Rattle.rule.specs.Demands.{Fit}
use Rattle.rule.specs.Sequence.{in_sequence, place, branch_in, rules_from, rule_record, records_of, drawing}
use Rattle.theory.proofs.Member.{In, head, cases_cons, eq_of_singleton}
use Rattle.theory.proofs.Perm.{Once}
use Rattle.theory.proofs.Scan.{at_in}
use Rattle.theory.proofs.Least.{Pairwise}
use Rattle.theory.proofs.Orders.{order_length, fit_order_is}
use Rattle.theory.proofs.Sets.{Order}
use Rattle.theory.specs.Shape.{Shaped}
use Rattle.theory.proofs.Walks.{smaller, length_table, fit_table}
use Rattle.theory.proofs.Levels.{whole_turn}
use Rattle.theory.proofs.Nodes.{none_lower}
use Rattle.theory.proofs.Reach.{Diagram, root_by_lem}
use Rattle.theory.proofs.Reduced.{diagram_reduced}
use Rattle.theory.proofs.Counting.{used_size, node_reached}
use Rattle.theory.proofs.Sequence.{Precedes, next_sequence, one_drawing}
use Rattle.theory.proofs.Place.{place_at, place_lt, place_is}
use Rattle.theory.proofs.Laying.{laid-length, laid_flag, laid_low, laid_high, laid_clear}
use Rattle.theory.proofs.Rules.{ends, Asks, asks_first, NotBehind, Before, Rest, rules_start, rules_length, rules_in, rules_once, there, rules_ask, rules_pairwise}
use Rattle.theory.proofs.Numbered.{Holds, Numbered, numbered_sound, numbered_table}

-- ---- pairs by their places

pairwise_at : (R : List ℕ → List ℕ → Type 0) (us : List (List ℕ)) → Pairwise R us → (j k : ℕ) → j < k → k < length us → R (get_or us j []) (get_or us k [])
pairwise_at R [] p j k l h = absurd (omega arith)
pairwise_at R (u ∷ us) p j zero l h = absurd (omega arith)
pairwise_at R (u ∷ us) p zero (suc k) l h = p.0 (get_or us k []) (at_in [] us k (omega arith))
pairwise_at R (u ∷ us) p (suc j) (suc k) l h = pairwise_at R us p.1 j k (omega arith) (omega arith)

pub drawing-length : (n : ℕ) (order t c : List ℕ) → length (drawing n order t c) ≡ length c
unfolding drawing
drawing-length n order t c = laid-length c (records_of (flags n order) t)

module _ (n : ℕ) (order t : List ℕ) (o : Order n (flags n order)) (fit : length t ≡ 2 ^ n) (bits : fit_rows t ≡ true) where
  abbrev rules : List (List ℕ)
  rules = rules_from [] (flags n order) t

  whole : Rest n (flags n order) [] (flags n order) 0
  whole = record { turn = whole_turn o; lower = none_lower n (flags n order); whole = omega (arith, order_length n (flags n order) o) }

  once : Once rules
  once = rules_once o t fit bits (flags n order) [] 0 whole

  count : length rules ≡ size (flags n order) t + 2
  count = rules_length [] (flags n order) t

  -- a rule from number 2 on is no constant
  no_end : (m : ℕ) → 2 ≤ m → m < length rules → In (get_or rules m []) (ends (length t)) → ⊥
  no_end m h l i =
      let (us, e) = rules_start [] (flags n order) t in
      let at : place (get_or rules m []) rules ≡ m = place_at rules once m l in
      elim (cases_cons i) [
        | inl q ↦ omega (arith, at, ap (λ (u : List ℕ). place u rules) (q ∙ ap (λ (rs : List (List ℕ)). get_or rs 0 []) (sym e)), place_at rules once 0 (omega arith))
        | inr k ↦
            omega (
              arith,
              at,
              ap (λ (u : List ℕ). place u rules) (eq_of_singleton k ∙ ap (λ (rs : List (List ℕ)). get_or rs 1 []) (sym e)),
              place_at rules once 1 (omega arith),
            )
      ]

  asks_at : (k : ℕ) → k < size (flags n order) t → (v : ℕ) × Asks n (flags n order) rules (get_or rules (k + 2) []) v
  asks_at k h =
      let l : k + 2 < length rules = omega (arith, count) in
      elim (rules_ask o t fit bits rules (flags n order) [] 0 whole [] (sym (append-nil rules)) (at_in [] rules (k + 2) l)) [
        | inl i ↦ absurd (no_end (k + 2) (omega arith) l i)
        | inr (v, _, a) ↦ (v, a)
      ]

  length_records : length (records_of (flags n order) t) ≡ size (flags n order) t
  unfolding records_of
  length_records = length-map (drop 2 rules) (rule_record (flags n order) rules) ∙ length-drop 2 rules ∙ omega (arith, count)

  record_at_lem : (k : ℕ) → get_or (records_of (flags n order) t) k (rule_record (flags n order) rules []) ≡ rule_record (flags n order) rules (get_or rules (k + 2) [])
  unfolding records_of
  record_at_lem k =
      let e : 2 + k ≡ k + 2 = omega arith in
      get_or-map (rule_record (flags n order) rules) (drop 2 rules) k []
      ∙ ap (rule_record (flags n order) rules) (get_or-drop 2 rules k [] ∙ ap (λ (i : ℕ). get_or rules i []) e)

  module _ (c : List ℕ) (space : size (flags n order) t ≤ room c) where
    held : length (records_of (flags n order) t) ≤ room c
    held = omega (arith, length_records)

    abbrev none : RecordValues
    none = rule_record (flags n order) rules []

    holds : (k : ℕ) → k < size (flags n order) t → Holds n (flags n order) rules (drawing n order t c) k
    unfolding drawing rule_record
    holds k h =
        let (v, a) = asks_at k h in
        let l : k < length (records_of (flags n order) t) = omega (arith, length_records) in
        let f = asks_first o a in
        let u = get_or rules (k + 2) [] in
        record {
          flag = v;
          asks = a;
          flag_is = laid_flag c (records_of (flags n order) t) held none k l ∙ ap (λ (r : RecordValues). r.flag) (record_at_lem k) ∙ f;
          low_is = laid_low c (records_of (flags n order) t) held none k l ∙ ap (λ (r : RecordValues). r.low) (record_at_lem k)
              ∙ ap (λ (x : ℕ). branch_in rules x 0 u) f;
          high_is = laid_high c (records_of (flags n order) t) held none k l ∙ ap (λ (r : RecordValues). r.high) (record_at_lem k)
              ∙ ap (λ (x : ℕ). branch_in rules x 1 u) f;
        }

    numbered : Numbered n order rules (drawing n order t c) (size (flags n order) t)
    unfolding drawing
    numbered =
        let (us, e) = rules_start [] (flags n order) t in
        record {
          once = once;
          count = count;
          no_is = ap (λ (rs : List (List ℕ)). get_or rs 0 []) e ∙ ap (λ (k : ℕ). replicate k 0) fit;
          yes_is = ap (λ (rs : List (List ℕ)). get_or rs 1 []) e ∙ ap (λ (k : ℕ). replicate k 1) fit;
          holds = holds;
          fits = omega (arith, drawing-length n order t c);
          clear = λ i h. laid_clear c (records_of (flags n order) t) held i (omega (arith, length_records));
        }

    is_sound : Shaped n order (drawing n order t c) (size (flags n order) t)
    is_sound = numbered_sound o numbered

    table_at : (m : ℕ) → m ≤ size (flags n order) t + 1 → table_of n (drawing n order t c) m ≡ get_or rules m []
    table_at = numbered_table o numbered

    -- ---- the root

    rule_in : In t rules
    rule_in = there o t fit bits (flags n order) [] 0 whole (unfold fixings in head refl)

    top_le : place t rules ≤ size (flags n order) t + 1
    top_le = omega (arith, place_lt t rules rule_in, count)

    top_table : table_of n (drawing n order t c) (place t rules) ≡ t
    top_table = table_at (place t rules) top_le ∙ place_is t rules rule_in

    is_node_lem : (k : ℕ) → k < size (flags n order) t → In (table_of n (drawing n order t c) (k + 2)) (nodes_of (flags n order) t)
    is_node_lem k h =
        let l : k + 2 < length rules = omega (arith, count) in
        rw (table_at (k + 2) (omega arith))
        (elim (rules_in [] (flags n order) t (at_in [] rules (k + 2) l)) [ inl i ↦ absurd (no_end (k + 2) (omega arith) l i) | inr i ↦ i ])

    top_diagram : Diagram n order (drawing n order t c) (size (flags n order) t) (place t rules)
    top_diagram =
        record {
          cells = is_sound;
          root_is = top_le;
          reached = λ k h.
              node_reached is_sound o k (place t rules) h top_le
              (subst (λ (u : List ℕ). In (table_of n (drawing n order t c) (k + 2)) (nodes_of (flags n order) u)) (sym top_table) (is_node_lem k h));
        }

    top_is : place t rules ≡ root_by (size (flags n order) t) t
    top_is = root_by_lem top_diagram ∙ ap (root_by (size (flags n order) t)) top_table

    -- the cells are a diagram of the table
    drawing_diagram : Diagram n order (drawing n order t c) (size (flags n order) t) (root_by (size (flags n order) t) t)
    drawing_diagram = subst (λ (m : ℕ). Diagram n order (drawing n order t c) (size (flags n order) t) m) top_is top_diagram

    drawing_table : table_of n (drawing n order t c) (root_by (size (flags n order) t) t) ≡ t
    drawing_table = subst (λ (m : ℕ). table_of n (drawing n order t c) m ≡ t) top_is top_table

    -- ---- the sequence

    -- in sequence but for equal records, of which there are none
    strictly : (j k : ℕ) → j < k → k < size (flags n order) t
        → (level (flags n order) (flag_at (drawing n order t c) k) < level (flags n order) (flag_at (drawing n order t c) j))
        ⊎ ((flag_at (drawing n order t c) j ≡ flag_at (drawing n order t c) k)
        × NotBehind (low_at (drawing n order t c) j) (high_at (drawing n order t c) j) (low_at (drawing n order t c) k) (high_at (drawing n order t c) k))
        → Precedes (flags n order) (drawing n order t c) j k
    strictly j k l h (inl x) = inl x
    strictly j k l h (inr (e, inl x)) = inr (e, inl x)
    strictly j k l h (inr (e, inr (q, x))) =
        elim (eq-or-lt_of_le x) [
          | inl z ↦ let y : j ≡ k = is_sound.once j k (omega arith) h e q z in absurd (omega arith)
          | inr z ↦ inr (e, inr (q, z))
        ]

    precede : (j k : ℕ) → j < k → k < size (flags n order) t → Precedes (flags n order) (drawing n order t c) j k
    precede j k l h =
        let a = holds j (omega arith) in
        let b = holds k h in
        let u = get_or rules (j + 2) [] in
        let w = get_or rules (k + 2) [] in
        let f = asks_first o a.asks in
        let g = asks_first o b.asks in
        strictly j k l h
        (rw (
          a.flag_is ∙ sym f,
          b.flag_is ∙ sym g,
          a.low_is ∙ ap (λ (x : ℕ). branch_in rules x 0 u) (sym f),
          a.high_is ∙ ap (λ (x : ℕ). branch_in rules x 1 u) (sym f),
          b.low_is ∙ ap (λ (x : ℕ). branch_in rules x 0 w) (sym g),
          b.high_is ∙ ap (λ (x : ℕ). branch_in rules x 1 w) (sym g),
        )
        (pairwise_at (λ u w. (In u (ends (length t)) → ⊥) → Before (flags n order) rules u w) rules
        (rules_pairwise o t fit bits rules (flags n order) [] 0 whole [] (sym (append-nil rules))) (j + 2) (k + 2) (omega arith) (omega (arith, count))
        (no_end (j + 2) (omega arith) (omega (arith, count)))))

    pub drawing_sequence : in_sequence n order (drawing n order t c) (size (flags n order) t) ≡ true
    drawing_sequence = next_sequence n order (drawing n order t c) (size (flags n order) t) (λ k h. precede k (k + 1) (omega arith) h)

-- ---- no other cells

-- whatever is a diagram of the table in as many cells, and stands in sequence, is the drawing
pub drawing_only : {n used root : ℕ} {order d : List ℕ} → Diagram n order d used root → Order n (flags n order) → (t c : List ℕ) → table_of n d root ≡ t
    → in_sequence n order d used ≡ true → length d ≡ length c → d ≡ drawing n order t c
drawing_only {n} {used} {root} {order} {d} x o t c e p l =
    let fit : length t ≡ 2 ^ n = ap length (sym e) ∙ length_table n d root in
    let bits : fit_rows t ≡ true = ap fit_rows (sym e) ∙ fit_table (smaller x.cells) n root x.root_is in
    let space : size (flags n order) t ≤ room c = omega (arith, used_size x o, ap (size (flags n order)) e, x.cells.fits) in
    one_drawing x (drawing_diagram n order t o fit bits c space) o (e ∙ sym (drawing_table n order t o fit bits c space)) p
    (drawing_sequence n order t o fit bits c space)
    (l ∙ sym (drawing-length n order t c))

-- ---- of fit arguments

module _ {n : ℕ} {order t : List ℕ} (f : Fit n order t) where
  ord : Order n (flags n order)
  ord = fit_order_is n order f.order_fits

  long : length t ≡ 2 ^ n
  unfolding fit_length
  long = eqb-true (length t) (2 ^ n) f.rows

module _ {n : ℕ} {order t : List ℕ} (f : Fit n order t) (c : List ℕ) (space : size (flags n order) t ≤ room c) where
  pub drawn_whole : Diagram n order (drawing n order t c) (size (flags n order) t) (root_by (size (flags n order) t) t)
  drawn_whole = drawing_diagram n order t (ord f) (long f) f.bits c space

  pub drawn_table : table_of n (drawing n order t c) (root_by (size (flags n order) t) t) ≡ t
  drawn_table = drawing_table n order t (ord f) (long f) f.bits c space

  pub drawn_sequence : in_sequence n order (drawing n order t c) (size (flags n order) t) ≡ true
  drawn_sequence = drawing_sequence n order t (ord f) (long f) f.bits c space

  -- the drawing draws the table
  pub drawing_draws : DrawnAs n order t (drawing n order t c) (size (flags n order) t) (root_by (size (flags n order) t) t)
  drawing_draws =
      let (o, r) = diagram_reduced n order (drawing n order t c) _ _ drawn_whole in
      record { ordered = o; reduced = r; table = drawn_table }
