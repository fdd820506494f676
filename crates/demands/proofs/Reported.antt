-- What a walk's set and number say: the flags of the records passed, each once, on which its answer rests.
-- Assumes nothing.
use mathlib.Core.Path.{◌≡◌, refl, sym, ap, ◌∙◌}
use mathlib.Core.Logic.{◌≢◌}
use mathlib.Core.List.{List, [], ◌∷◌, map}
use mathlib.Core.Option.{none}
use Prim.Native.Nat.{ℕ, zero, suc, ◌+◌, ◌^◌, ◌≤◌, ◌<◌}
use native.Mathlib.Omega.{arith}
use borrow.Author.Tests.{ltb-false, leb-false, lt-leb, not-false}
use lib.ListN.{length, length-map}
use Rattle.rule.specs.Order.{flags}
use Rattle.rule.specs.Sets.{flag_set}
use Rattle.rule.specs.Cells.{flag_at}
use Rattle.rule.specs.Walk.{walk, records_passed, flags_asked, walk_values}
use Rattle.rule.specs.Refusals.{refusal, walk_rows}
use Rattle.rule.specs.Reply.{Reply, refused, reply, number_of}
use Rattle.rule.specs.Calls.{Walks}
use Rattle.rule.specs.Demands.{Gives, RowsAgreeOn, WalkReport, FlagsReported}
use Rattle.theory.specs.Shape.{Shaped}
use Rattle.theory.proofs.Friedman.{Flags}
use Rattle.theory.proofs.FlagSet.{set_in, set_lt, set_size_lem}
use Rattle.theory.proofs.Sets.{Order}
use Rattle.theory.proofs.Orders.{fit_order_is}
use Rattle.theory.proofs.Sound.{sound_shape}
use Rattle.theory.proofs.Walks.{smaller, table_row}
use Rattle.theory.proofs.Asked.{passed_alike, asked_flags, asked_once_each, asked_most, asked_in}
use Rattle.theory.proofs.Refused.{Passed, passed, none_applies}
use Rattle.demands.proofs.Stands.{accepted_zero}
use Rattle.demands.proofs.PassRule.{freely}

-- an accepted walk, by the tests that it passed
module _ (n used m row : ℕ) (order c : List ℕ) (z : refusal (walk_rows n order c used m none row) ≡ 0) where
  tests : Passed (walk_rows n order c used m none row)
  tests = passed (walk_rows n order c used m none row) refl z

  few : n ≤ 10
  few = ltb-false 10 n tests.0

  ordered : Order n (flags n order)
  ordered = fit_order_is n order (not-false _ tests.1.0)

  shape : Shaped n order c used
  shape = sound_shape n order c used (not-false _ tests.1.1.1.0)

  node_le : m ≤ used + 1
  node_le = ltb-false (used + 1) m tests.1.1.1.1.0

  flags_lt : Flags n (flags_asked c m row)
  flags_lt v i = ordered.sound v (asked_flags shape ordered m node_le row v i)

  -- a row with the same values of the flags asked
  alike : (other : ℕ) (r : Reply) → other < 2 ^ n → RowsAgreeOn (flag_set (flags_asked c m row)) row other → Walks n order c used m none other r
      → Gives r (walk_values c m row)
  alike other r l agree x =
      let taken : refusal (walk_rows n order c used m none other) ≡ 0 =
      none_applies (walk_rows n order c used m none other)
      (tests.0, (tests.1.0, (tests.1.1.0, (tests.1.1.1.0, (tests.1.1.1.1.0, (lt-leb (2 ^ n) other l, (refl, tt))))))) in
      let (records, answer) = passed_alike (smaller shape) row other m node_le (λ v i. agree v ((set_in (flags_asked c m row) v).1 i)) in
      x.answer
      ∙ ap (λ (k : ℕ). reply k (walk_values c m other)) taken
      ∙ ap (λ (a : ℕ). reply 0 (a ∷ flag_set (flags_asked c m other) ∷ length (flags_asked c m other) ∷ [])) answer
      ∙ ap (λ (ks : List ℕ). reply 0 (walk c m row ∷ flag_set (map (flag_at c) ks) ∷ length (map (flag_at c) ks) ∷ [])) records

  report : WalkReport n order c used m row (walk c m row) (flag_set (flags_asked c m row)) (length (flags_asked c m row))
  report =
      let asked = flags_asked c m row in
      let in-set = set_in asked in
      let by-table = asked_in shape ordered m node_le row in
      record {
        answer_is = sym (table_row n c m row (leb-false (2 ^ n) row tests.1.1.1.1.1.0));
        flags_are = in-set;
        below = set_lt n asked flags_lt;
        set_size_lem = sym (set_size_lem asked (asked_once_each shape ordered m node_le row) (λ v i. omega (arith, few, flags_lt v i)));
        records = length-map (records_passed c m row) (flag_at c);
        most = asked_most shape ordered m node_le row;
        rested = alike;
        by_rule = λ v. (λ e. (by-table v).0 ((in-set v).0 e), λ d. (in-set v).1 ((by-table v).1 d));
      }

zeros : (k : ℕ) (values : List ℕ) {r : Reply} → r ≡ reply k values → number_of r ≢ 0 → r ≡ refused (number_of r) (map (λ v. 0) values)
zeros zero values e d = absurd (d (ap number_of e))
zeros (suc k) values e d = e ∙ ap (λ (i : ℕ). refused i (map (λ v. 0) values)) (sym (ap number_of e))

pub flags-reported : FlagsReported
flags-reported =
    record {
      accepts = λ n used m row pass order c r x h.
          let z = accepted_zero (refusal (walk_rows n order c used m pass row)) (walk_values c m row) x.answer h in (
            walk c m row,
            flag_set (flags_asked c m row),
            length (flags_asked c m row),
            x.answer ∙ ap (λ (k : ℕ). reply k (walk_values c m row)) z,
            report n used m row order c (freely n used m row pass order c z),
          );
      refuses = λ n used m row pass order c r x d. zeros (refusal (walk_rows n order c used m pass row)) (walk_values c m row) x.answer d;
    }
