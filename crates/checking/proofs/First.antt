-- A call that takes a diagram: it tests what check tests first, then rows of its own.
-- Assumes nothing.
use mathlib.Core.Path.{◌≡◌, refl, ◌∙◌}
use mathlib.Core.List.{List, [], ◌∷◌, ◌++◌}
use Prim.Native.Nat.{ℕ}
use borrow.Author.Tests.{ltb-false, not-false}
use Rattle.rule.specs.Refusals.{Row, refusal, check_rows}
use Rattle.rule.specs.Reply.{accepted, refused, reply}
use Rattle.theory.proofs.Tests.{or_first}
use Rattle.theory.proofs.Refused.{passed, refused-more, passed_more, split_passed, refused_is, accepted_is}
use Rattle.checking.proofs.Refused.{Taken}

module _ (n : ℕ) (o c : List ℕ) (used root : ℕ) where
  -- what holds where none of check's rows applies
  pub check_taken : refusal (check_rows n o c used root) ≡ 0 → Taken n o c used
  check_taken z =
      let (few, (order, (cells, (records, _)))) = passed (check_rows n o c used root) refl z in
      record {
        few = ltb-false _ _ few;
        ordered = not-false _ order;
        lent = not-false _ cells;
        is_sound = not-false _ (or_first _ _ records);
      }

  module _ (own : List Row) where
    pub check_passes : (w : List ℕ) → accepted w ≡ reply (refusal (check_rows n o c used root)) (used ∷ [])
        → (refusal (check_rows n o c used root) ≡ 0) × (refusal own ≡ refusal (check_rows n o c used root ++ own))
    check_passes w e =
        let z = (accepted_is (refusal (check_rows n o c used root)) w (used ∷ []) e).0 in
        (z, passed_more (check_rows n o c used root) own refl z)

    pub none_refuses : refusal (check_rows n o c used root ++ own) ≡ 0 → Taken n o c used × (refusal own ≡ 0)
    none_refuses e = let (z, more) = split_passed (check_rows n o c used root) own refl e in (check_taken z, more)
