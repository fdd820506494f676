-- A step of the reader: a field that is skipped, refused or read, and fields one after the other.
-- Assumes nothing.
use Rattle.std.specs.Prelude.{Result}
use Rattle.std.specs.Result.{IsErrAnd}
use Rattle.std.proofs.lemmas.Result.{err_from_is_err_and}
use mathlib.Core.Path.{◌≡◌, refl}
use mathlib.Core.List.{List}
use Prim.Native.Nat.{ℕ, zero, suc}
use Rattle.rule.specs.Answers.{refusal_number}
use Rattle.rule.specs.declared.refusal.Refusal.{Refusal}
use Rattle.rule.specs.Files.{Reading, Outcome, stop, go, and_then, field_if}
use Rattle.cursor.specs.declared.place.Cursor.{Cursor}
use Rattle.cursor.specs.Step.{Comes}

-- one field behind another
pub then_then : (o : Outcome) (f g : Reading → Outcome) → and_then (and_then o f) g ≡ and_then o (λ x. and_then (f x) g)
then_then (stop k) f g = refl
then_then (go x) f g = refl

-- what is refused stays so
pub stays : (next : Reading → Outcome) {o : Outcome} {k : ℕ} → stop k ≡ o → stop k ≡ and_then o next
stays next e = rw (← e)

-- what is read behind a step is read behind what the step is
pub goes_on : (next : Reading → Outcome) {o o' p : Outcome} → o ≡ o' → p ≡ and_then o next → p ≡ and_then o' next
goes_on next e f = rw (← e) f

-- where a step is refused, so is what hands it on
pub handed_on : {Stands : Cursor → Type 0} (file : List ℕ) (r : Result Cursor Refusal) (k : Refusal) {o : Outcome}
    → IsErrAnd r (λ e. e ≡ k) → stop (refusal_number k) ≡ o → Comes file Stands o r
handed_on file r k e q = let p = err_from_is_err_and r e in rw (p.1, p.2) (record { is = q; stands = tt })

-- ---- a field by its bit

pub entered : (field : Reading → Outcome) (x : Reading) (b : ℕ) → (b ≡ 0 → ⊥) → field_if b field x ≡ field x
entered field x zero d = absurd (d refl)
entered field x (suc b) d = refl
