-- The answers of open, from its tests.
-- Assumes nothing.
use mathlib.Core.Path.{◌≡◌, refl, sym, ap, subst, ◌∙◌}
use mathlib.Core.List.{List, []}
use Prim.Native.Nat.{ℕ, zero, suc}
use native.Mathlib.Nat.{sub-zero}
use lib.ListN.{length, replicate}
use Rattle.rule.specs.Refusals.{refusal, open_rows}
use Rattle.rule.specs.Reply.{accepted, refused, reply, leaves}
use Rattle.rule.specs.Calls.{State, with_used, Open}
use Rattle.cells.specs.Record.{clear_from}

module _ (s : State) (c : List ℕ) where
  -- what a refusal's number, or none, leaves
  opens_by : (k : ℕ) → k ≡ refusal (open_rows s.n s.places c) → Open s c (reply k []) (leaves k (with_used s 0) s) (leaves k (replicate (length c) 0) c)
  opens_by k e =
      record {
        state = ap (λ (i : ℕ). leaves i (with_used s 0) s) e;
        answer = ap (λ (i : ℕ). reply i []) e;
        cells = ap (λ (i : ℕ). leaves i (replicate (length c) 0) c) e;
      }

  pub open_refused : (k : ℕ) → k ≡ refusal (open_rows s.n s.places c) → (k ≡ 0 → ⊥) → Open s c (refused k []) s c
  open_refused zero e d = absurd (d refl)
  open_refused (suc k) e d = opens_by (suc k) e

  pub open_done : {k : ℕ} → k ≡ refusal (open_rows s.n s.places c) → k ≡ 0 → Open s c (accepted []) (with_used s 0) (clear_from c 0)
  unfolding clear_from
  open_done e z =
      subst (λ (d : List ℕ). Open s c (accepted []) (with_used s 0) d) (ap (λ (k : ℕ). replicate k 0) (sym (sub-zero (length c))))
      (opens_by 0 (sym z ∙ e))
