-- One more call at the end of those that were made.
-- Assumes nothing.
use mathlib.Core.Path.{◌≡◌, refl, sym, ap, subst, ◌∙◌}
use mathlib.Core.List.{List, [], ◌∷◌, ◌++◌}
use Prim.Native.Nat.{ℕ, zero, suc, ◌+◌, ◌*◌, ◌≤◌}
use native.Mathlib.Omega.{arith}
use lib.ListN.{length, take, drop, length-append, length-take, length-drop, take-append-drop}
use lib.Seq.{take_at, drop_at, drop-drop, sets, sets-eq}
use Rattle.rule.specs.Calls.{State}
use Rattle.rule.specs.History.{Call, Meets, Calls}
use Rattle.store.specs.State.{state_of}
use Rattle.asking.specs.declared.answers.Reached.{Reached}
use Rattle.asking.specs.declared.requests.Request.{Request}
use Rattle.asking.specs.Answer.{reached_reply}
use Rattle.asking.specs.Request.{asked_by, part}
use Rattle.history.specs.Step.{call_of, Steps}
use Rattle.coding.specs.Coded.{call_words, request_at, given_at, asked_at}
use Rattle.noting.specs.Noted.{note_words, note_of, notes}
use Rattle.playing.specs.Played.{Coded, bytes_after, Turns, CodedFrom, Plays}

calls_more : (s : State) (c : List ℕ) (xs : List Call) (s' : State) (d : List ℕ) (x : Call) → Calls s c xs s' d → Meets s' d x
    → Calls s c (xs ++ (x ∷ [])) x.state x.cells
calls_more s c [] s' d x (se, ce) m =
    (subst (λ (z : State). Meets z c x) se (subst (λ (z : List ℕ). Meets s' z x) ce m), (refl, refl))
calls_more s c (y ∷ ys) s' d x (m, ms) h = (m, calls_more y.state y.cells ys s' d x ms h)

coded_more : (w : List ℕ) (k next : ℕ) (b : List ℕ) (xs : List Call) (b' : List ℕ) (x : Call) → next ≡ k + length xs → CodedFrom w k b xs b'
    → Coded w next b' x → CodedFrom w k b (xs ++ (x ∷ [])) (bytes_after b' x)
coded_more w k next b [] b' x e h y =
    let q : next ≡ k = omega arith in
    (subst (λ (z : ℕ). Coded w z b x) q (subst (λ (z : List ℕ). Coded w next z x) h y), ap (λ (z : List ℕ). bytes_after z x) h)
coded_more w k next b (z ∷ zs) b' x e (h, hs) y =
    (h, coded_more w (k + 1) next (bytes_after b z) zs b' x (omega arith) hs y)

-- ---- the answer words

notes-more : (xs : List Call) (x : Call) → notes (xs ++ (x ∷ [])) ≡ notes xs ++ note_of x.answer
notes-more [] x = refl
notes-more (y ∷ ys) x = ap (λ (l : List ℕ). note_of y.answer ++ l) (notes-more ys x)

length-notes : (xs : List Call) → length (notes xs) ≡ length xs * note_words
length-notes [] = refl
length-notes (x ∷ xs) = omega (arith, length-notes xs)

-- more words, behind those that are written
written_more : (ns a note : List ℕ) (m : ℕ) → length ns ≡ m → m + length note ≤ length a
    → sets (ns ++ drop m a) m note ≡ (ns ++ note) ++ drop (m + length note) a
written_more ns a note m l h =
    let all = ns ++ drop m a in
    let fits : m + length note ≤ length all = simp (length-append, length-drop) (omega arith) in
    let front : take m all ≡ ns = take_at ns (drop m a) m l in
    let behind : drop (m + length note) all ≡ drop (m + length note) a =
    sym (drop-drop (length note) m all) ∙ ap (λ (z : List ℕ). drop (length note) z) (drop_at ns (drop m a) m l) ∙ drop-drop (length note) m a in
    sets-eq note all m fits ∙ ap (λ (z : List ℕ). (z ++ note) ++ drop (m + length note) all) front ∙ ap (λ (z : List ℕ). (ns ++ note) ++ z) behind

-- ---- one call

drop_taken : (k : ℕ) (b : List ℕ) → drop (length (take k b)) b ≡ drop k b
drop_taken zero b = refl
drop_taken (suc k) [] = refl
drop_taken (suc k) (x ∷ b) = drop_taken k b

-- a call by its request, which the words code, and its answer noted
pub turn_made : {w : List ℕ} {k : ℕ} {q : Request} {s g : State} {r : Reached} {c b a d b' a' : List ℕ} → q ≡ request_at w (k * call_words)
    → g ≡ given_at w (k * call_words) → Steps q s g c b r d b' → length b' ≡ length b → a' ≡ sets a (k * note_words) (note_of (reached_reply r))
    → Turns w k s c b a (state_of r.store) d b' a'
turn_made {w} {k} {q} {s} {g} {r} {c} {b} {a} {d} {b'} {a'} qe ge step same noted =
    let asks : asked_by q g ≡ asked_at w k = rw (qe, ge) in
    let bytes_are : take (part q) b' ++ drop (length (take (part q) b)) b ≡ b' =
    ap (λ (z : List ℕ). take (part q) b' ++ z) (drop_taken (part q) b ∙ sym step.behind) ∙ take-append-drop (part q) b' in
    record {
      call = call_of q g b r d b';
      coded = record { asks = asks; lent = ap (λ (z : Request). take (part z) b) qe; as_many = simp length-take (omega arith) };
      met = step.met;
      state_is = refl;
      cells_are = refl;
      bytes_are = sym bytes_are;
      noted = noted;
    }

-- ---- the run

-- no call yet
pub plays_none : (w : List ℕ) (s : State) (c b a : List ℕ) → Plays w 0 s c b a s c b a
plays_none w s c b a = record { calls = []; count = refl; coded = refl; made_so = (refl, refl); noted = refl }

-- the next one
pub plays_more : {w : List ℕ} {k : ℕ} {s s' t : State} {c b a d b' a' e g h : List ℕ} → Plays w k s c b a s' d b' a'
    → Turns w k s' d b' a' t e g h → k * note_words + note_words ≤ length a → Plays w (k + 1) s c b a t e g h
plays_more {w} {k} {s} {s'} {t} {c} {b} {a} {d} {b'} {a'} {e} {g} {h} p q room =
    let x = q.call in
    let at = k * note_words in
    let at-end : length (notes p.calls) ≡ at = omega (arith, length-notes p.calls, p.count) in
    let more : (k + 1) * note_words ≡ at + note_words = omega arith in
    let noted : h ≡ notes (p.calls ++ (x ∷ [])) ++ drop ((k + 1) * note_words) a =
    q.noted ∙ ap (λ (z : List ℕ). sets z at (note_of x.answer)) p.noted
    ∙ written_more (notes p.calls) a (note_of x.answer) at at-end room
    ∙ ap (λ (z : List ℕ). z ++ drop (at + note_words) a) (sym (notes-more p.calls x))
    ∙ ap (λ (i : ℕ). notes (p.calls ++ (x ∷ [])) ++ drop i a) (sym more) in
    let coded : CodedFrom w 0 b (p.calls ++ (x ∷ [])) (bytes_after b' x) =
    coded_more w 0 k b p.calls b' x (omega (arith, p.count)) p.coded q.coded in
    let made_so : Calls s c (p.calls ++ (x ∷ [])) x.state x.cells = calls_more s c p.calls s' d x p.made_so q.met in
    record {
      calls = p.calls ++ (x ∷ []);
      count = simp length-append (omega (arith, p.count));
      coded = subst (CodedFrom w 0 b (p.calls ++ (x ∷ []))) (sym q.bytes_are) coded;
      made_so = subst (λ (z : State). Calls s c (p.calls ++ (x ∷ [])) z e) (sym q.state_is)
          (subst (Calls s c (p.calls ++ (x ∷ [])) x.state) (sym q.cells_are) made_so);
      noted = noted;
    }
