-- A call that makes a rule, from its tests and what the search for the rule's node came to.
-- Assumes nothing.
use mathlib.Core.Path.{◌≡◌, refl, sym, ap, ◌∙◌}
use mathlib.Core.Bool.{true}
use mathlib.Core.List.{List, [], ◌∷◌}
use Prim.Native.Nat.{ℕ, zero, suc, ◌+◌, ◌≤◌}
use native.Mathlib.Omega.{arith}
use borrow.Author.Tests.{lt-ltb, le-ltb}
use Rattle.rule.specs.Level.{nodes_of}
use Rattle.rule.specs.Order.{flags}
use Rattle.rule.specs.Cells.{room}
use Rattle.rule.specs.Results.{Making, flag, join, choose, fix, made_in, needed, free}
use Rattle.rule.specs.Refusals.{Row, refusal, result, making_rows}
use Rattle.rule.specs.Reply.{accepted, refused}
use Rattle.rule.specs.Answers.{made_reply}
use Rattle.rule.specs.Calls.{State, with_used, Make}
use Rattle.theory.proofs.Refused.{numbered, passed_more}
use Rattle.theory.proofs.Orders.{fit_order_is}
use Rattle.theory.proofs.Sound.{sound_shape}
use Rattle.levels.specs.declared.level.Levels.{Levels}
use Rattle.unique.specs.declared.node.Grown.{Grown}
use Rattle.std.specs.Prelude.{Option, Some, None}
use Rattle.unique.specs.Search.{Grew}
use Rattle.unique.proofs.Settled.{Settled, Unsettled, settled, unsettled}
use Rattle.checking.proofs.Refused.{Taken}
use Rattle.checking.proofs.Parts.{fit_room, sound_room}
use Rattle.apply.specs.Grow.{Ready, From, Comes}
use Rattle.concluding.specs.declared.ending.Outcome.{Outcome}
use Rattle.concluding.specs.Conclude.{Concludes}
use Rattle.refusing.specs.Tested.{tested_rows, Tested}
use Rattle.refusing.proofs.Rows.{still_refused, taken}

pub from-node : {l : Levels} {c : List ℕ} {used m : ℕ} → m ≤ used + 1 → From l c used 0 m
from-node h = record { node = h; later = omega arith }

module _ (s : State) (c : List ℕ) (x : Making) where
  under : (k : ℕ) → refusal (making_rows s.n s.places c s.used x) ≡ suc k → Make s c x (refused (suc k) (0 ∷ [])) s c
  under k e = rw e (record { answer = refl; state = refl; cells = refl })

  rows_numbered : (y : Making) → numbered (tested_rows s.n s.places c s.used y) ≡ true
  rows_numbered (flag i) = refl
  rows_numbered (join code f g) = refl
  rows_numbered (choose f g h) = refl
  rows_numbered (fix m i b) = refl

  -- the row behind those that were tested
  last : List Row
  last = result (needed s.n s.places c s.used (made_in s.n c x)) (free c s.used) ∷ []

  module _ {k : ℕ} {index : List ℕ} (t : Tested (tested_rows s.n s.places c s.used x) c s.used k index) where
    pub refused_by : (r : Outcome) → (k ≡ 0 → ⊥) → (r.used ≡ s.used) × (made_reply r.answer ≡ refused k (0 ∷ []))
        → Make s c x (made_reply r.answer) (with_used s r.used) c
    unfolding last
    refused_by r d e =
        rw (e.0, e.1) (go k d (still_refused (tested_rows s.n s.places c s.used x) last t.number d))
      where
        go : (k : ℕ) → (k ≡ 0 → ⊥) → k ≡ refusal (making_rows s.n s.places c s.used x) → Make s c x (refused k (0 ∷ [])) s c
        go zero d e = absurd (d refl)
        go (suc k) d e = under k (sym e)

    module _ (z : k ≡ 0) where
      pub lent : Taken s.n s.places c s.used
      lent = taken s.n s.places c s.used x t z

      pub fits : s.used ≤ room c
      fits = sound_room s.n s.places c s.used lent.is_sound

      -- what a recursion is given
      pub ready : {l : Levels} → l.n ≡ s.n → l.order.places ≡ s.places → Ready l c s.used index
      ready e f =
          record {
            order_fits = rw (e, f) lent.ordered;
            is_sound = rw (e, f) (sound_shape s.n s.places c s.used lent.is_sound);
            small = fit_room c lent.lent;
            indexed = t.indexed z;
          }

      -- the rows that were tested leave it to the room
      room_left : refusal (making_rows s.n s.places c s.used x) ≡ refusal last
      unfolding last
      room_left = sym (passed_more (tested_rows s.n s.places c s.used x) last (rows_numbered x) (sym t.number ∙ z))

      made : {more m : ℕ} {d : List ℕ} → Settled s c (made_in s.n c x) more m d → Make s c x (accepted (m ∷ [])) (with_used s more) d
      unfolding last
      made y =
          let e : refusal (making_rows s.n s.places c s.used x) ≡ 0 =
          room_left ∙ rw (le-ltb (free c s.used) (needed s.n s.places c s.used (made_in s.n c x)) y.fits) in
          rw e (record {
            answer = ap (λ (m : ℕ). accepted (m ∷ [])) y.node_is;
            state = ap (with_used s) y.count;
            cells = y.holds;
          })

      no_room : {d : List ℕ} → Unsettled s c (made_in s.n c x) d → Make s c x (refused 10 (0 ∷ [])) s c
      unfolding last
      no_room y = under 9 (room_left ∙ rw (lt-ltb (free c s.used) (needed s.n s.places c s.used (made_in s.n c x)) y.exceeds))

      -- what the search came to
      pub answered : {l : Levels} {p : Grown} {d e next : List ℕ} (r : Outcome) → l.n ≡ s.n → l.order.places ≡ s.places
          → Comes l (made_in l.n c x) 0 c s.used p d next → Concludes p.found d s.used p.used r e
          → Make s c x (made_reply r.answer) (with_used s r.used) e
      answered {l} {p} {d} {e} {next} r n-is order_is comes y = go p.found refl y
        where
          grew : Grew s.n s.places (nodes_of (flags s.n s.places) (made_in s.n c x)) 0 (made_in s.n c x) c s.used p d
          grew = rw (n-is, order_is) at comes.grew

          go : (f : Option ℕ) → p.found ≡ f → Concludes f d s.used p.used r e → Make s c x (made_reply r.answer) (with_used s r.used) e
          go (Some m) q (used, answer, cells) =
              rw (used, answer, cells)
              (made (settled s (sound_shape s.n s.places c s.used lent.is_sound) (fit_order_is s.n s.places lent.ordered) grew q))
          go None q (used, answer, cells) =
              let u = unsettled s (sound_shape s.n s.places c s.used lent.is_sound) (fit_order_is s.n s.places lent.ordered) grew q in
              rw (used, answer, cells, u.cleared) (no_room u)
