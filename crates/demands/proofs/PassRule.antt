-- A walk under a pass rule: refused under 14 just where the pass rule has 0 in the row, accepted as without one where it has 1, and else refused as without one
-- but for 7.
-- Assumes nothing.
use mathlib.Core.Path.{◌≡◌, refl, sym, ap, ◌∙◌}
use mathlib.Core.Logic.{◌≢◌}
use mathlib.Core.Bool.{Bool, true, false}
use mathlib.Core.List.{List, [], ◌∷◌, ◌++◌}
use mathlib.Core.Option.{Option, none, some}
use Prim.Native.Nat.{ℕ, ◌+◌, ◌^◌, ◌≤◌, ◌<◌}
use native.Mathlib.Omega.{arith}
use borrow.Author.Tests.{lt-ltb, le-ltb, ltb-false, eqb-true, eqb-false, eq-eqb, ne_eqb, not-false}
use lib.Dec.{leb, eqb}
use lib.ListN.{get_or}
use Rattle.rule.specs.Walk.{walk_values, table_of}
use Rattle.rule.specs.Refusals.{Row, first_else, refusal, flag_count, order_places, cells, records, node, row_argument, pass_argument, row_rows, walk_rows}
use Rattle.rule.specs.Reply.{Reply, reply, number_of, Accepted}
use Rattle.rule.specs.Calls.{Walks}
use Rattle.rule.specs.Demands.{PassRule}
use Rattle.theory.proofs.Cofactor.{row_lt}
use Rattle.theory.proofs.Sound.{sound_shape}
use Rattle.theory.proofs.Walks.{smaller, fit_table}
use Rattle.theory.proofs.Refused.{Passed, passed, none_applies, refused-more, passed_more, last_given, behind_passed}
use Rattle.theory.proofs.Pass.{pass_yes}
use Rattle.demands.proofs.Stands.{accepted_zero, zero_accepted, number_of_lem}

neither : (b : Bool) → first_else b 9 0 ≢ 0 → first_else b 9 0 ≢ 9 → ⊥
neither true d e = e refl
neither false d e = d refl

module _ (n used m p row : ℕ) (order c : List ℕ) where
  -- the rows without the pass rule, and those with it
  abbrev plain_rows : List Row
  plain_rows = walk_rows n order c used m none row

  abbrev under_rows : List Row
  under_rows = walk_rows n order c used m (some p) row

  -- of these the rows ahead of the pass rule's 7, and those ahead of its 14
  abbrev rule_rows : List Row
  rule_rows = flag_count n ∷ order_places n order ∷ cells c ∷ records n order c used ∷ node used m ∷ []

  abbrev before : List Row
  before = rule_rows ++ (node used p ∷ row_argument n row ∷ [])

  -- where none applies it has 1 in the row
  pub allowed : refusal under_rows ≡ 0 → Passed before × (get_or (table_of n c p) row 0 ≡ 1)
  allowed z =
      let (few, (o, (f, (s, (h, (g, (l, (b, _)))))))) = passed under_rows refl z in
      let lt = row_lt (table_of n c p) (fit_table (smaller (sound_shape n order c used (not-false _ s))) n p (ltb-false (used + 1) p g)) row in
      let other = eqb-false (get_or (table_of n c p) row 0) 0 b in
      ((few, (o, (f, (s, (h, (g, (l, tt))))))), omega (arith, lt, other))

  -- and where 14 does it has 0
  pub forbidden : refusal under_rows ≡ 14 → Passed before × (get_or (table_of n c p) row 0 ≡ 0)
  forbidden z = let (q, b) = last_given 13 before (eqb (get_or (table_of n c p) row 0) 0) refl z in (q, eqb-true _ 0 b)

  -- without it there are no rows but these
  pub without : Passed before → refusal plain_rows ≡ 0
  without (few, (o, (f, (s, (h, (g, (l, _))))))) = none_applies plain_rows (few, (o, (f, (s, (h, (l, (refl, tt)))))))

  together : refusal plain_rows ≡ 0 → p ≤ used + 1 → Passed before
  together z g =
      let (few, (o, (f, (s, (h, (l, _)))))) = passed plain_rows refl z in
      (few, (o, (f, (s, (h, (le-ltb (used + 1) p g, (l, tt)))))))

  there : Passed before → p ≤ used + 1
  there (_, (_, (_, (_, (_, (g, _)))))) = ltb-false (used + 1) p g

  far : Passed rule_rows → used + 1 < p → refusal under_rows ≡ 7
  far h g = behind_passed rule_rows (node used p ∷ row_rows n c (some p) row) h ∙ rw (lt-ltb (used + 1) p g)

  module _ {q r : Reply} (x : Walks n order c used m none row q) (y : Walks n order c used m (some p) row r) where
    abbrev values : List ℕ
    values = walk_values c m row

    -- the numbers of both replies
    alone : number_of q ≡ refusal plain_rows
    alone = ap number_of x.answer ∙ number_of_lem (refusal plain_rows) values

    under : number_of r ≡ refusal under_rows
    under = ap number_of y.answer ∙ number_of_lem (refusal under_rows) values

    alike : refusal under_rows ≡ refusal plain_rows → r ≡ q
    alike e = y.answer ∙ ap (λ (k : ℕ). reply k values) e ∙ sym x.answer

    alone_zero : Accepted q → refusal plain_rows ≡ 0
    alone_zero = accepted_zero (refusal plain_rows) values x.answer

    under_zero : Accepted r → refusal under_rows ≡ 0
    under_zero = accepted_zero (refusal under_rows) values y.answer

    taken : Passed before → Accepted q
    taken h = zero_accepted (refusal plain_rows) values x.answer (without h)

    is_forbidden : number_of r ≡ 14 → Accepted q × (p ≤ used + 1) × (get_or (table_of n c p) row 0 ≡ 0)
    is_forbidden k = let (h, e) = forbidden (sym under ∙ k) in (taken h, there h, e)

    forbids : Accepted q × (p ≤ used + 1) × (get_or (table_of n c p) row 0 ≡ 0) → number_of r ≡ 14
    forbids (a, g, e) = under ∙ behind_passed before (pass_argument n c (some p) row ∷ []) (together (alone_zero a) g) ∙ rw (eq-eqb (get_or (table_of n c p) row 0) 0 e)

    is_allowed : Accepted r → Accepted q × (p ≤ used + 1) × (get_or (table_of n c p) row 0 ≡ 1)
    is_allowed a = let (h, e) = allowed (under_zero a) in (taken h, there h, e)

    allows : Accepted q × (p ≤ used + 1) × (get_or (table_of n c p) row 0 ≡ 1) → Accepted r
    allows (a, g, e) =
        let (few, (o, (f, (s, (h, (i, (l, _))))))) = together (alone_zero a) g in
        let b = ne_eqb (get_or (table_of n c p) row 0) 0 (λ z. omega (arith, z, e)) in
        zero_accepted (refusal under_rows) values y.answer
        (none_applies under_rows (few, (o, (f, (s, (h, (i, (l, (b, tt)))))))))

    same : Accepted r → r ≡ q
    same a = alike (under_zero a ∙ sym (alone_zero (is_allowed a).0))

    -- a number ahead of the pass rule's row
    earlier : number_of q ≢ 0 → number_of q ≢ 9 → r ≡ q
    earlier d e =
        let rest = row_rows n c none row in
        let tested : refusal rule_rows ≢ 0 =
        λ z.
        let is = alone ∙ sym (passed_more rule_rows rest refl z) in neither (leb (2 ^ n) row) (λ i. d (is ∙ i)) (λ i. e (is ∙ i)) in
        alike (sym (refused-more rule_rows (node used p ∷ row_rows n c (some p) row) tested) ∙ refused-more rule_rows rest tested)

    no_row : number_of q ≡ 9 → Passed rule_rows × (leb (2 ^ n) row ≡ true)
    no_row k = last_given 8 rule_rows (leb (2 ^ n) row) refl (sym alone ∙ k)

    nine : number_of q ≡ 9 → p ≤ used + 1 → r ≡ q
    nine k g =
        let ((few, (o, (f, (s, (h, _))))), l) = no_row k in
        let z : refusal under_rows ≡ 9 =
        behind_passed (rule_rows ++ (node used p ∷ [])) (row_rows n c (some p) row) (few, (o, (f, (s, (h, (le-ltb (used + 1) p g, tt)))))) ∙ rw l in
        alike (z ∙ sym k ∙ alone)

    seven : number_of q ≡ 0 → used + 1 < p → number_of r ≡ 7
    seven k g =
        let (few, (o, (f, (s, (h, _))))) = passed plain_rows refl (sym alone ∙ k) in
        under ∙ far (few, (o, (f, (s, (h, tt))))) g

-- a walk that is accepted, whatever its pass rule, is accepted without one
pub freely : (n used m row : ℕ) (pass : Option ℕ) (order c : List ℕ) → refusal (walk_rows n order c used m pass row) ≡ 0
    → refusal (walk_rows n order c used m none row) ≡ 0
freely n used m row none order c z = z
freely n used m row (some p) order c z = without n used m p row order c (allowed n used m p row order c z).0

pub pass_rule : PassRule
pass_rule =
    record {
      without = λ n used m row order c q x. x.answer;
      forbids = λ n used m p row order c q r x y. (is_forbidden n used m p row order c x y, forbids n used m p row order c x y);
      allows = λ n used m p row order c q r x y. (is_allowed n used m p row order c x y, allows n used m p row order c x y);
      same = λ n used m p row order c q r x y. same n used m p row order c x y;
      refuses = λ n used m p row order c q r x y. (
        earlier n used m p row order c x y,
        nine n used m p row order c x y,
        seven n used m p row order c x y,
        λ k g. under n used m p row order c x y ∙ far n used m p row order c (no_row n used m p row order c x y k).0 g,
      );
      yes = λ n used m row order c r.
          let e = ap (λ (k : ℕ). reply k (walk_values c m row)) (pass_yes n used m row order c) in
          (λ x. record { answer = x.answer ∙ e; bytes_are = x.bytes_are }, λ x. record { answer = x.answer ∙ sym e; bytes_are = x.bytes_are });
    }
