-- The answers of replay, from the tests that led to them and the tally.
-- Assumes nothing.
use mathlib.Core.Path.{◌≡◌, refl, sym, ap, ◌∙◌}
use mathlib.Core.Logic.{◌≢◌, inl, inr}
use mathlib.Core.Bool.{false}
use mathlib.Core.List.{List, [], ◌∷◌, flat_map}
use mathlib.Core.Option.{Option, none, some}
use Prim.Native.Nat.{ℕ, ◌+◌, ◌%◌, ◌^◌, ◌≤◌, ◌<◌}
use native.Mathlib.Omega.{arith}
use borrow.Author.Tests.{ltb-false, leb-false}
use lib.Dec.{eqb, ltb}
use lib.ListN.{length, get_or, replicate}
use Rattle.rule.specs.Bits.{bit}
use Rattle.rule.specs.Sets.{flag_set}
use Rattle.rule.specs.Walk.{walk, flags_asked, table_of}
use Rattle.rule.specs.Log.{snapshots, Played, played, played_in, yes_answers, changes, times_asked, tally_numbers, tally_of}
use Rattle.rule.specs.Results.{replaying, answered}
use Rattle.rule.specs.Refusals.{refusal, node, most_log, log_length, row_rows, log_rows, replay_rows}
use Rattle.rule.specs.Reply.{accepted, refused, reply}
use Rattle.rule.specs.Calls.{Replays}
use Rattle.theory.proofs.Member.{In, not-nil, cases_cons}
use Rattle.theory.proofs.Bits.{bit_lt}
use Rattle.theory.proofs.FlagSet.{set_in}
use Rattle.theory.proofs.Tests.{or_second}
use Rattle.theory.proofs.Sound.{sound_shape}
use Rattle.theory.proofs.Orders.{fit_order_is}
use Rattle.theory.proofs.Walks.{table_row}
use Rattle.theory.proofs.Asked.{asked_flags}
use Rattle.theory.proofs.Refused.{row_passed, passed, split_passed, refused-reply}
use Rattle.theory.proofs.Pass.{replay_yes}
use Rattle.theory.proofs.Log.{played-same, never_asked, in_ten, zero_tally}
use Rattle.checking.proofs.Refused.{cell_rows, Taken, rows_passed}
use Rattle.refusing.specs.Tested.{node_rows, Tested}
use Rattle.refusing.proofs.Rows.{still_refused, passed_on, two_nodes}
use Rattle.walking.specs.Walk.{Walkable}
use Rattle.walking.specs.Pass.{pass_node}
use Rattle.walking.proofs.Answer.{walkable}
use Rattle.tallying.specs.declared.Tally.{Tally}
use Rattle.tallying.specs.Tally.{tally_values, tally_for}

-- ---- the tally

-- where 9 does not apply, each row is there
rows_below : (n : ℕ) (c : List ℕ) (pass : Option ℕ) (rows : List ℕ) → refusal (flat_map (row_rows n c pass) rows) ≡ 0 → (row : ℕ) → In row rows → row < 2 ^ n
unfolding flat_map
rows_below n c pass [] z row i = absurd (not-nil i)
rows_below n c pass (x ∷ rows) z row i =
    let (here, rest) = split_passed (row_rows n c pass x) (flat_map (row_rows n c pass) rows) refl z in
    elim (cases_cons i) [
      | inl e ↦ rw e (leb-false (2 ^ n) x (passed (row_rows n c pass x) refl here).0)
      | inr j ↦ rows_below n c pass rows rest row j
    ]

-- a flag that no walk asks is in no set
none_asks : (answer : ℕ → ℕ) (asks : ℕ → List ℕ) (v : ℕ) (rows : List ℕ) → ((row : ℕ) → bit (flag_set (asks row)) v ≡ 0) → (p : Played)
    → In p (played answer asks rows) → bit p.1 v ≡ 0
unfolding played
none_asks answer asks v [] h p i = absurd (not-nil i)
none_asks answer asks v (x ∷ rows) h p i =
    elim (cases_cons i) [ inl e ↦ ap (λ (q : Played). bit q.1 v) e ∙ h x | inr j ↦ none_asks answer asks v rows h p j ]

module _ {n used : ℕ} {o c : List ℕ} (t : Taken n o c used) (m : ℕ) (le : m ≤ used + 1) where
  -- a walk asks no flag from n on
  high_flag : (row v : ℕ) → n ≤ v → bit (flag_set (flags_asked c m row)) v ≡ 0
  high_flag row v h =
      let ordered = fit_order_is n o t.ordered in
      let far : bit (flag_set (flags_asked c m row)) v ≢ 1 = λ e.
      omega (arith, ordered.sound v (asked_flags (sound_shape n o c used t.is_sound) ordered m le row v ((set_in (flags_asked c m row) v).0 e))) in
      omega (arith, far, bit_lt (flag_set (flags_asked c m row)) v)

  tally_is : (rows : List ℕ) → ((row : ℕ) → In row rows → row < 2 ^ n)
      → tally_values (tally_for (played (walk c m) (flags_asked c m) rows)) ≡ tally_of n (played_in n c m rows)
  tally_is rows h =
      let ps = played_in n c m rows in
      let same : played (walk c m) (flags_asked c m) rows ≡ ps =
      played-same (walk c m) (λ row. get_or (table_of n c m) row 0) (flags_asked c m) (flags_asked c m) rows (λ row i. sym (table_row n c m row (h row i))) (λ row i. refl) in
      let zero-from : (v : ℕ) → n ≤ v → times_asked ps v ≡ 0 = λ v l. never_asked ps v (none_asks _ (flags_asked c m) v rows (λ row. high_flag row v l)) in
      ap (λ (qs : List Played). tally_values (tally_for qs)) same
      ∙ ap (λ (l : List ℕ). length ps ∷ yes_answers ps ∷ changes ps ∷ l) (sym (in_ten (times_asked ps) n t.few zero-from))

-- ---- the answers

module _ (n : ℕ) (o c : List ℕ) (used m : ℕ) (pass : Option ℕ) (log : List ℕ) where
  abbrev values : List ℕ
  values = answered n c (replaying m pass) log

  -- refused under a number
  refused_by : {k : ℕ} → k ≡ refusal (replay_rows n o c used m pass log) → k ≢ 0 → Replays n o c used m pass log (refused k (replicate tally_numbers 0))
  refused_by {k} e d =
      record {
        answer = ap (refused k) (sym (zero_tally n (played_in n c m (snapshots log)))) ∙ refused-reply k values d ∙ ap (λ (i : ℕ). reply i values) e;
        bytes_are = refl;
      }

  -- the pass rule's rows are those of the node that is asked
  by_node : (q : Option ℕ) → refusal (replay_rows n o c used m (some (pass_node q)) log) ≡ refusal (replay_rows n o c used m q log)
  by_node none = replay_yes n used m o c log
  by_node (some p) = refl

  module _ {p : ℕ} (e : p ≡ pass_node pass) where
    own : refusal (replay_rows n o c used m (some p) log) ≡ refusal (replay_rows n o c used m pass log)
    own = ap (λ (i : ℕ). refusal (replay_rows n o c used m (some i) log)) e ∙ by_node pass

    pub nodes_refused : {k : ℕ} {index : List ℕ} → Tested (node_rows n o c used (m ∷ p ∷ p ∷ [])) c used k index → k ≢ 0
        → Replays n o c used m pass log (refused k (replicate tally_numbers 0))
    nodes_refused tests d =
        refused_by (still_refused (node_rows n o c used (m ∷ p ∷ [])) (log_rows n c (some p) log) (two_nodes n o c used m p tests).number d ∙ own) d

    module _ {index : List ℕ} (tests : Tested (node_rows n o c used (m ∷ p ∷ p ∷ [])) c used 0 index) where
      number : 0 ≡ refusal (node_rows n o c used (m ∷ p ∷ []))
      number = (two_nodes n o c used m p tests).number

      apart : (refusal (cell_rows n o c used) ≡ 0) × (refusal (node used m ∷ node used p ∷ []) ≡ 0)
      apart = split_passed (cell_rows n o c used) (node used m ∷ node used p ∷ []) refl (sym number)

      pub taken : Taken n o c used
      taken = rows_passed n o c used (sym apart.0)

      nodes_there : (m ≤ used + 1) × (p ≤ used + 1)
      nodes_there =
          let (a, (b, _)) = passed (node used m ∷ node used p ∷ []) refl apart.1 in
          (ltb-false (used + 1) m a, ltb-false (used + 1) p b)

      pub rule_walks : Walkable c used m
      rule_walks = walkable n o c used (sym apart.0) nodes_there.0

      pub pass_walks : Walkable c used p
      pass_walks = walkable n o c used (sym apart.0) nodes_there.1

      module _ {j : ℕ} (f : j ≡ refusal (log_rows n c (some p) log)) where
        given : j ≡ refusal (replay_rows n o c used m pass log)
        given = passed_on (node_rows n o c used (m ∷ p ∷ [])) (log_rows n c (some p) log) number refl refl f ∙ own

        pub log_refused : j ≢ 0 → Replays n o c used m pass log (refused j (replicate tally_numbers 0))
        log_refused d = refused_by given d

      module _ (f : 0 ≡ refusal (log_rows n c (some p) log)) where
        tests_passed : ((log_length log).0 ≡ false) × (refusal (flat_map (row_rows n c (some p)) (snapshots log)) ≡ 0)
        tests_passed = row_passed (log_length log).0 15 (flat_map (row_rows n c (some p)) (snapshots log)) (sym f)

        pub short : length log ≤ most_log
        short = ltb-false most_log (length log) (or_second (eqb (length log % 2) 1) (ltb most_log (length log)) tests_passed.0)

        pub log_tallied : {t : Tally} → t ≡ tally_for (played (walk c m) (flags_asked c m) (snapshots log)) → Replays n o c used m pass log (accepted (tally_values t))
        log_tallied g =
            record {
              answer = ap (λ (t : Tally). accepted (tally_values t)) g
                  ∙ ap accepted (tally_is taken m nodes_there.0 (snapshots log) (rows_below n c (some p) (snapshots log) tests_passed.1))
                  ∙ ap (λ (i : ℕ). reply i values) (given f);
              bytes_are = refl;
            }
