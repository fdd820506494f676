-- What the tally of a log counts, and when a log is refused: by the tables of its rule and its pass rule, and as the walks for its snapshots tell.
-- Assumes nothing.
use mathlib.Core.Path.{◌≡◌, refl, sym, ap, ap₂, ◌∙◌}
use mathlib.Core.Logic.{◌≢◌, ◌⊎◌, inl, inr}
use mathlib.Core.Bool.{Bool, true, false}
use mathlib.Core.List.{List, [], ◌∷◌, ◌++◌, map, flat_map}
use mathlib.Core.Option.{Option, none, some}
use Prim.Native.Nat.{ℕ, zero, suc, ◌+◌, ◌*◌, ◌-◌, ◌%◌, ◌^◌, ◌≤◌}
use native.Mathlib.Decide.{ℕ_discrete}
use native.Mathlib.Omega.{arith}
use borrow.Author.Tests.{le-ltb, ltb-true, ltb-false, leb-false, eqb-true, eqb-false}
use lib.Dec.{eqb, leb, ltb}
use lib.ListN.{length, get_or, replicate}
use Rattle.rule.specs.Bits.{bit, from, below}
use Rattle.rule.specs.Tests.{keep}
use Rattle.rule.specs.Level.{asked_by}
use Rattle.rule.specs.Order.{flags, rising}
use Rattle.rule.specs.Sets.{flag_set}
use Rattle.rule.specs.Cells.{fit_cells}
use Rattle.rule.specs.Walk.{flags_asked, walk_values, table_of}
use Rattle.rule.specs.Reduced.{DrawnAs}
use Rattle.rule.specs.Pass.{forbids}
use Rattle.rule.specs.Log.{snapshots, Played, played, played_in, played_by, yes_answers, changes, times_asked, tally_numbers, tally_of}
use Rattle.rule.specs.Refusals.{Row, first_else, refusal, most_log, row_rows, pass_rows, walk_rows, log_rows, replay_rows}
use Rattle.rule.specs.Reply.{Reply, accepted, refused, reply, number_of, value_at, Accepted}
use Rattle.rule.specs.Calls.{Replays}
use Rattle.rule.specs.Text.{read_line}
use Rattle.rule.specs.Listing.{flags_of, rows_of, line_rows, word_line}
use Rattle.rule.specs.RigTally.{printed_tally, rig_tally}
use Rattle.rule.specs.Demands.{Gives, log_rows_by, ReplayedBy, LogFits, RulesFit, pass_table, WalksFor, told_by, first_refused, RigLog}
use Rattle.rule.proofs.Zeros.{zero_at}
use Rattle.theory.proofs.Bits.{length-below}
use Rattle.theory.proofs.Tests.{length_keep}
use Rattle.theory.proofs.Orders.{fit_order_is, in_places_is, rising_fit, rising-flags}
use Rattle.theory.proofs.Sound.{sound_shape, shape_sound}
use Rattle.theory.proofs.Walks.{table_row}
use Rattle.theory.proofs.Asked.{asked_by_lem}
use Rattle.theory.proofs.Reduced.{drawn_diagram}
use Rattle.theory.proofs.Refused.{numbered, Passed, passed, none_applies, refused-more, behind_passed, passed_more, split_passed, refusal_le, refused-reply}
use Rattle.theory.proofs.Log.{snapshots-length, played-length, played-same, in_ten, zero_tally, changes_le}
use Rattle.demands.proofs.Stands.{accepted_zero, zero_accepted, number_of_lem}
use Rattle.demands.proofs.Provocation.{nodes_fit, fit_nodes}

-- ---- what is tested ahead of a log

module _ (n used m : ℕ) (order c : List ℕ) where
  -- the rows of the cells and the nodes, and that others stand behind them
  abbrev nodes : Option ℕ → List Row
  nodes pass = pass_rows n order c used m pass []

  behind_nodes : (pass : Option ℕ) (more : List Row) → pass_rows n order c used m pass more ≡ nodes pass ++ more
  behind_nodes none more = refl
  behind_nodes (some p) more = refl

  nodes_numbered : (pass : Option ℕ) → numbered (nodes pass) ≡ true
  nodes_numbered none = refl
  nodes_numbered (some p) = refl

  nodes_le : (pass : Option ℕ) → refusal (nodes pass) ≤ 7
  nodes_le none = refusal_le 7 (nodes none) refl
  nodes_le (some p) = refusal_le 7 (nodes (some p)) refl

  -- they pass exactly where the rules are fit
  rules_fit : (pass : Option ℕ) → Passed (nodes pass) → RulesFit n used m pass order c
  rules_fit none (few, (o, (f, (s, (h, _))))) = nodes_fit n used m 1 order c (few, (o, (f, (s, (h, (le-ltb (used + 1) 1 (omega arith), tt))))))
  rules_fit (some p) t = nodes_fit n used m p order c t

  fit_rules : (pass : Option ℕ) → RulesFit n used m pass order c → Passed (nodes pass)
  fit_rules none x = let (few, (o, (f, (s, (h, _))))) = fit_nodes n used m 1 order c x in (few, (o, (f, (s, (h, tt)))))
  fit_rules (some p) x = fit_nodes n used m p order c x

-- ---- the snapshots of a log

-- what their rows of the refusal table give: 9, 14 or none
abbrev RowNumber : ℕ → Type 0
RowNumber k = (k ≡ 0) ⊎ ((k ≡ 9) ⊎ (k ≡ 14))

-- and none of these
no_other : {k : ℕ} → RowNumber k → (k ≢ 6) × (k ≢ 7) × (k ≢ 16)
no_other (inl e) = (λ q. omega arith, λ q. omega arith, λ q. omega arith)
no_other (inr (inl e)) = (λ q. omega arith, λ q. omega arith, λ q. omega arith)
no_other (inr (inr e)) = (λ q. omega arith, λ q. omega arith, λ q. omega arith)

-- one snapshot more ahead of them
row_number : (b d : Bool) (k : ℕ) → RowNumber k → RowNumber (first_else b 9 (first_else d 14 k))
row_number true d k h = inr (inl refl)
row_number false true k h = inr (inr refl)
row_number false false k h = h

module _ (n : ℕ) (c : List ℕ) (pass : Option ℕ) where
  abbrev rows_for : List ℕ → List Row
  rows_for rows = flat_map (row_rows n c pass) rows

  row_numbers : (rows : List ℕ) → RowNumber (refusal (rows_for rows))
  unfolding flat_map
  row_numbers [] = inl refl
  row_numbers (row ∷ rows) = row_number (leb (2 ^ n) row) (forbids n c pass row) (refusal (rows_for rows)) (row_numbers rows)

-- past the cells and the nodes
module _ (n used m : ℕ) (pass : Option ℕ) (order c : List ℕ) (t : Passed (nodes n used m order c pass)) where
  -- a walk is refused as its row is
  walk_number : (row : ℕ) → refusal (walk_rows n order c used m pass row) ≡ refusal (row_rows n c pass row)
  walk_number row =
      ap refusal (behind_nodes n used m order c pass (row_rows n c pass row)) ∙ behind_passed (nodes n used m order c pass) (row_rows n c pass row) t

  -- so the first walk that is refused has the number of the log's rows
  first_refused_lem : (rows : List ℕ) (qs : List Reply) → WalksFor n order c used m pass rows qs → first_refused qs ≡ refusal (rows_for n c pass rows)
  unfolding flat_map
  first_refused_lem [] [] w = refl
  first_refused_lem [] (q ∷ qs) w = absurd w
  first_refused_lem (row ∷ rows) [] w = absurd w
  first_refused_lem (row ∷ rows) (q ∷ qs) (w, ws) =
      go (refusal (row_rows n c pass row)) refl (w.answer ∙ ap (λ (k : ℕ). reply k (walk_values c m row)) (walk_number row)) (first_refused_lem rows qs ws)
    where
      go : (k : ℕ) → refusal (row_rows n c pass row) ≡ k → q ≡ reply k (walk_values c m row) → first_refused qs ≡ refusal (rows_for n c pass rows)
          → first_refused (q ∷ qs) ≡ refusal (row_rows n c pass row ++ rows_for n c pass rows)
      go zero z e ih = rw e (ih ∙ passed_more (row_rows n c pass row) (rows_for n c pass rows) refl z)
      go (suc k) z e ih = rw e (sym z ∙ refused-more (row_rows n c pass row) (rows_for n c pass rows) (λ y. omega (arith, y, z)))

  -- and where none is, they tell what is played
  as_told : (rows : List ℕ) (qs : List Reply) → WalksFor n order c used m pass rows qs → refusal (rows_for n c pass rows) ≡ 0
      → played_in n c m rows ≡ map told_by qs
  unfolding flat_map played
  as_told [] [] w z = refl
  as_told [] (q ∷ qs) w z = absurd w
  as_told (row ∷ rows) [] w z = absurd w
  as_told (row ∷ rows) (q ∷ qs) (w, ws) z =
      let (here, rest) = split_passed (row_rows n c pass row) (rows_for n c pass rows) refl z in
      let (there, _) = passed (row_rows n c pass row) refl here in
      let answer = table_row n c m row (leb-false (2 ^ n) row there) in
      let told : q ≡ accepted (walk_values c m row) = w.answer ∙ ap (λ (k : ℕ). reply k (walk_values c m row)) (walk_number row ∙ here) in
      ap₂ {C = List Played} ◌∷◌ (ap (λ (a : ℕ). (a, flag_set (flags_asked c m row))) answer ∙ ap told_by (sym told)) (as_told rows qs ws rest)

-- ---- the tally's numbers

-- numbers with zeros behind them
padded_le : (f : ℕ → ℕ) (most : ℕ) → ((v : ℕ) → f v ≤ most) → (vs : List ℕ) (k i : ℕ) → get_or (map f vs ++ replicate k 0) i 0 ≤ most
padded_le f most h [] k i = rw (zero_at k i) (omega arith)
padded_le f most h (v ∷ vs) k zero = h v
padded_le f most h (v ∷ vs) k (suc i) = padded_le f most h vs k i

-- none of a tally's numbers is above that of the snapshots
tally_le : (n : ℕ) → n ≤ 10 → (ps : List Played) (i : ℕ) → get_or (tally_of n ps) i 0 ≤ length ps
unfolding yes_answers times_asked
tally_le n few ps zero = omega arith
tally_le n few ps (suc zero) = length_keep (λ (p : Played). eqb p.0 1) ps
tally_le n few ps (suc (suc zero)) = changes_le ps
tally_le n few ps (suc (suc (suc i))) =
    let asked = map (times_asked ps) (below n) in
    rw (in_places_is asked (omega (arith, length-below (times_asked ps) n)))
    (padded_le (times_asked ps) (length ps) (λ v. length_keep (λ (p : Played). eqb (bit p.1 v) 1) ps) (below n) (10 - length asked) i)

-- of no snapshot each is 0
tally_empty : (n : ℕ) → n ≤ 10 → tally_of n [] ≡ replicate tally_numbers 0
unfolding yes_answers changes times_asked keep from
tally_empty n few = ap {B = List ℕ} (λ (l : List ℕ). 0 ∷ 0 ∷ 0 ∷ l) (in_ten (times_asked []) n few (λ v h. refl))

-- ---- one log

-- what is tested of it, by the pass rule's table
rows_by : (n : ℕ) (c : List ℕ) (pass : Option ℕ) (log : List ℕ) → log_rows n c pass log ≡ log_rows_by n (pass_table n c pass) log
rows_by n c none log = refl
rows_by n c (some p) log = refl

module _ (n used m : ℕ) (pass : Option ℕ) (order c log : List ℕ) where
  -- the rows of the refusal table: those of the cells and the nodes, and those of the snapshots; all together
  abbrev ahead : List Row
  ahead = nodes n used m order c pass

  abbrev last : List Row
  last = rows_for n c pass (snapshots log)

  abbrev all : List Row
  all = replay_rows n order c used m pass log

  -- what is given: a number of the cells and the nodes; 16; or what the snapshots' rows give
  data Outcome : Type 0 where
    early : refusal ahead ≢ 0 → refusal all ≡ refusal ahead → refusal all ≤ 7 → Outcome
    unfit : Passed ahead → (LogFits log → ⊥) → refusal all ≡ 16 → Outcome
    by_rows : Passed ahead → LogFits log → refusal all ≡ refusal last → Outcome

  -- past the cells and the nodes the log's own rows give the number
  behind : Passed ahead → refusal all ≡ refusal (log_rows n c pass log)
  behind t = ap refusal (behind_nodes n used m order c pass (log_rows n c pass log)) ∙ behind_passed ahead (log_rows n c pass log) t

  outcome : Outcome
  outcome = go (ℕ_discrete (refusal ahead) 0)
    where
      tested : Passed ahead → (a b : Bool) → eqb (length log % 2) 1 ≡ a → ltb most_log (length log) ≡ b → Outcome
      tested t true b e f = unfit t (λ l. omega (arith, l.whole, eqb-true (length log % 2) 1 e)) (behind t ∙ rw e)
      tested t false true e f = unfit t (λ l. omega (arith, l.short, ltb-true most_log (length log) f)) (behind t ∙ rw (e, f))
      tested t false false e f =
          by_rows t (record { whole = omega (arith, eqb-false (length log % 2) 1 e); short = ltb-false most_log (length log) f }) (behind t ∙ rw (e, f))

      go : Dec (refusal ahead ≡ 0) → Outcome
      go (no d) =
          let e : refusal all ≡ refusal ahead =
          ap refusal (behind_nodes n used m order c pass (log_rows n c pass log)) ∙ sym (refused-more ahead (log_rows n c pass log) d) in
          early d e (omega (arith, e, nodes_le n used m order c pass))
      go (yes z) = tested (passed ahead (nodes_numbered n used m order c pass) z) (eqb (length log % 2) 1) (ltb most_log (length log)) refl refl

  module _ {r : Reply} (x : Replays n order c used m pass log r) where
    abbrev values : List ℕ
    values = tally_of n (played_in n c m (snapshots log))

    is_accepted : Accepted r → refusal all ≡ 0
    is_accepted = accepted_zero (refusal all) values x.answer

    number : number_of r ≡ refusal all
    number = ap number_of x.answer ∙ number_of_lem (refusal all) values

    gives : Accepted r → Gives r values
    gives a = x.answer ∙ ap (λ (k : ℕ). reply k values) (is_accepted a)

    fits : RulesFit n used m pass order c → Passed ahead
    fits = fit_rules n used m order c pass

    -- where the cells and the nodes are fit, they give no number
    past : RulesFit n used m pass order c → refusal ahead ≢ 0 → ⊥
    past f d = d (none_applies ahead (fits f))

    -- the reply goes by the tables: the flags that a walk asks are those of the rule's table
    pub by_tables : RulesFit n used m pass order c → ReplayedBy n order (table_of n c m) (pass_table n c pass) log r
    by_tables f =
        x.answer
        ∙ ap₂ reply (behind (fits f) ∙ ap refusal (rows_by n c pass log))
        (ap (tally_of n)
        (played-same (λ row. get_or (table_of n c m) row 0) (λ row. get_or (table_of n c m) row 0) (flags_asked c m) (asked_by (flags n order) (table_of n c m))
        (snapshots log)
        (λ row i. refl)
        (λ row i. asked_by_lem (sound_shape n order c used f.is_sound) (fit_order_is n order f.order_fits) row m f.rule)))

    module _ (qs : List Reply) (w : WalksFor n order c used m pass (snapshots log) qs) where
      -- what the log's rows give, told by the walks
      earliest : Passed ahead → first_refused qs ≡ refusal last
      earliest t = first_refused_lem n used m pass order c t (snapshots log) qs w

      accepts : Accepted r → RulesFit n used m pass order c × LogFits log × (first_refused qs ≡ 0)
      accepts a =
          elim outcome [
            | early d e l ↦ absurd (d (sym e ∙ is_accepted a))
            | unfit t d e ↦ absurd (omega (arith, e, is_accepted a))
            | by_rows t l e ↦ (rules_fit n used m order c pass t, l, earliest t ∙ sym e ∙ is_accepted a)
          ]

      accepted_so : RulesFit n used m pass order c × LogFits log × (first_refused qs ≡ 0) → Accepted r
      accepted_so (f, l, z) =
          elim outcome [
            | early d e _ ↦ absurd (past f d)
            | unfit t d e ↦ absurd (d l)
            | by_rows t _ e ↦ zero_accepted (refusal all) values x.answer (e ∙ sym (earliest t) ∙ z)
          ]

      as_walked : Accepted r → Gives r (tally_of n (map told_by qs))
      as_walked a =
          elim outcome [
            | early d e l ↦ absurd (d (sym e ∙ is_accepted a))
            | unfit t d e ↦ absurd (omega (arith, e, is_accepted a))
            | by_rows t l e ↦
                gives a ∙ ap (λ (ps : List Played). accepted (tally_of n ps)) (as_told n used m pass order c t (snapshots log) qs w (sym e ∙ is_accepted a))
          ]

      refused_first : RulesFit n used m pass order c → LogFits log → number_of r ≡ first_refused qs
      refused_first f l =
          elim outcome [
            | early d e _ ↦ absurd (past f d)
            | unfit t d e ↦ absurd (d l)
            | by_rows t _ e ↦ number ∙ e ∙ sym (earliest t)
          ]

    is_sixteen : number_of r ≡ 16 → RulesFit n used m pass order c × (LogFits log → ⊥)
    is_sixteen k =
        elim outcome [
          | early d e l ↦ absurd (omega (arith, k, number, l))
          | unfit t d e ↦ (rules_fit n used m order c pass t, d)
          | by_rows t l e ↦ absurd ((no_other (row_numbers n c pass (snapshots log))).2 (sym (number ∙ e) ∙ k))
        ]

    sixteen_is : RulesFit n used m pass order c × (LogFits log → ⊥) → number_of r ≡ 16
    sixteen_is (f, g) =
        elim outcome [
          | early d e l ↦ absurd (past f d)
          | unfit t d e ↦ number ∙ e
          | by_rows t l e ↦ absurd (g l)
        ]

    refuses : number_of r ≢ 0
        → (r ≡ refused (number_of r) (replicate tally_numbers 0)) × (number_of r ≢ 9 → number_of r ≢ 14 → number_of r ≢ 16 → number_of r ≡ refusal ahead)
    refuses d = (
      x.answer
          ∙ sym (refused-reply (refusal all) values (λ z. d (number ∙ z)))
          ∙ ap₂ refused (sym number) (zero_tally n (played_in n c m (snapshots log))),
      λ a b g.
          elim outcome [
            | early _ e l ↦ number ∙ e
            | unfit t _ e ↦ absurd (g (number ∙ e))
            | by_rows t l e ↦
                elim (row_numbers n c pass (snapshots log)) [
                  | inl z ↦ absurd (d (number ∙ e ∙ z))
                  | inr (inl z) ↦ absurd (a (number ∙ e ∙ z))
                  | inr (inr z) ↦ absurd (b (number ∙ e ∙ z))
                ]
          ],
    )

    first_ahead : refusal ahead ≢ 0 → number_of r ≡ refusal ahead
    first_ahead d =
        elim outcome [
          | early _ e l ↦ number ∙ e
          | unfit t _ e ↦ absurd (d (none_applies ahead t))
          | by_rows t l e ↦ absurd (d (none_applies ahead t))
        ]

    -- so a log is refused under neither of theirs
    pub neither : RulesFit n used m pass order c → (number_of r ≢ 6) × (number_of r ≢ 7)
    neither f =
        elim outcome [
          | early d e l ↦ absurd (past f d)
          | unfit t d e ↦ (λ k. omega (arith, k, number, e), λ k. omega (arith, k, number, e))
          | by_rows t l e ↦
              let (six, seven, _) = no_other (row_numbers n c pass (snapshots log)) in
              (λ k. six (sym (number ∙ e) ∙ k), λ k. seven (sym (number ∙ e) ∙ k))
        ]

    most : Accepted r → (value_at r 0 * 2 ≡ length log) × (value_at r 0 ≤ 32767) × ((i : ℕ) → value_at r i ≤ value_at r 0)
    most a =
        elim outcome [
          | early d e l ↦ absurd (d (sym e ∙ is_accepted a))
          | unfit t d e ↦ absurd (omega (arith, e, is_accepted a))
          | by_rows t l e ↦
              let many = played-length (λ row. get_or (table_of n c m) row 0) (flags_asked c m) (snapshots log) ∙ snapshots-length log in
              let few = (rules_fit n used m order c pass t).few in
              rw (gives a) (
                omega (arith, many, l.whole),
                omega (arith, many, l.short),
                tally_le n few (played_in n c m (snapshots log)),
              )
        ]

-- a log without snapshots
empty : (n used m : ℕ) (pass : Option ℕ) (order c : List ℕ) {r : Reply} → Replays n order c used m pass [] r → RulesFit n used m pass order c
    → Gives r (replicate tally_numbers 0)
unfolding snapshots played flat_map
empty n used m pass order c x f =
    x.answer
    ∙ ap (λ (k : ℕ). reply k (tally_of n [])) (behind n used m pass order c [] (fit_rules n used m order c pass f))
    ∙ ap accepted (tally_empty n f.few)

-- ---- what the program prints

module _ (input c : List ℕ) (used root : ℕ) where
  abbrev line : List ℕ
  line = (read_line input).0

  abbrev n : ℕ
  n = flags_of line

  -- of a table that is drawn the cells and the root are fit
  printed : {r : Reply} → refusal (line_rows line) ≡ 0 → fit_cells c ≡ true → DrawnAs n (rising n) (rows_of line) c used root
      → Replays n (rising n) c used root none (read_line input).1 r → rig_tally input ≡ printed_tally n r
  unfolding rig_tally
  printed {r} z f d x =
      let (_, (few, _)) = passed (line_rows line) refl z in
      let le = ltb-false 10 n few in
      let g = drawn_diagram d in
      let log = (read_line input).1 in
      let by : ReplayedBy n (rising n) (table_of n c root) none log r =
      by_tables n used root none (rising n) c log x (record {
        few = le;
        order_fits = rising_fit n le;
        lent = f;
        is_sound = shape_sound n (rising n) c used g.cells;
        rule = g.root_is;
        pass_rule = omega arith;
      }) in
      ap (printed_tally n)
      (ap (λ (k : ℕ). reply k (tally_of n (played_by (below n) (rows_of line) (snapshots log)))) (sym (passed_more (line_rows line) (log_rows n [] none log) refl z))
      ∙ ap₂ (λ (o t : List ℕ). reply (refusal (log_rows n [] none log)) (tally_of n (played_by o t (snapshots log)))) (sym (rising-flags n le)) (sym d.table)
      ∙ sym by)

-- a refused line or log prints its number
pub printed_refused : (k n : ℕ) (values : List ℕ) → k ≢ 0 → printed_tally n (reply k values) ≡ word_line "refused" k
printed_refused zero n values d = absurd (d refl)
printed_refused (suc k) n values d = refl

unprinted : (input : List ℕ) → refusal (line_rows (read_line input).0) ≢ 0 → rig_tally input ≡ word_line "refused" (refusal (line_rows (read_line input).0))
unfolding rig_tally
unprinted input d =
    let line = (read_line input).0 in
    let n = flags_of line in
    let log = (read_line input).1 in
    ap (λ (k : ℕ). printed_tally n (reply k (tally_of n (played_by (below n) (rows_of line) (snapshots log))))) (sym (refused-more (line_rows line) (log_rows n [] none log) d))
    ∙ printed_refused (refusal (line_rows line)) n (tally_of n (played_by (below n) (rows_of line) (snapshots log))) d

pub rig_log : RigLog
rig_log =
    record {
      by_tables = λ n used m pass order c log r x f. by_tables n used m pass order c log x f;
      accepts = λ n used m pass order c log r qs x w. (accepts n used m pass order c log x qs w, accepted_so n used m pass order c log x qs w);
      as_walked = λ n used m pass order c log r qs x w a. as_walked n used m pass order c log x qs w a;
      earliest = λ n used m pass order c log r qs x w f l. refused_first n used m pass order c log x qs w f l;
      sixteen = λ n used m pass order c log r x. (is_sixteen n used m pass order c log x, sixteen_is n used m pass order c log x);
      ahead = λ n used m pass order c log r x d. first_ahead n used m pass order c log x d;
      refuses = λ n used m pass order c log r x d. refuses n used m pass order c log x d;
      empty = λ n used m pass order c r x f. empty n used m pass order c x f;
      most = λ n used m pass order c log r x a. most n used m pass order c log x a;
      printed = λ input c used root r z f d x. printed input c used root z f d x;
      unprinted = unprinted;
    }
