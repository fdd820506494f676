-- Demand 3 of the code. `Plays` is the contract of `play`, which stands on those of the ten calls of the store: each is its own relation of crate rule
-- (Calls.antt), or `step` is not proved.
-- Assumes nothing.
use mathlib.Core.Path.{◌≡◌, sym, ap, subst, ◌∙◌}
use mathlib.Core.List.{List, [], ◌∷◌}
use Prim.Native.Nat.{ℕ, ◌<◌}
use native.Mathlib.Omega.{arith}
use lib.ListN.{length}
use Rattle.rule.specs.Refusals.{refusal, open_rows}
use Rattle.rule.specs.Reply.{Reply, accepted, reply, Accepted}
use Rattle.rule.specs.Calls.{State, Open}
use Rattle.rule.specs.History.{Asked, open_call, Call, MeetsBy, Calls, Fed, feed, OpensBy, BeginsOpen}
use Rattle.rule.specs.Demands.{AfterList}
use Rattle.demands.proofs.Demand3.{demand3}
use contract.Lifetimes.{Lfts}
use denote.Triple.Clauses.{AtExit}
use borrow.Fn.Kinds.{Dens, res_t, ended_of}
use Rattle.store.specs.State.{state_of}
use Rattle.asking.specs.declared.requests.Request.{Request}
use Rattle.asking.specs.Request.{asked_by}
use Rattle.coding.specs.Coded.{given_at}
use Rattle.playing.specs.Played.{CodedFrom}
use Rattle.playing.proofs.play.Reads as play
use Rattle.playing.proofs.play.Kinds as kinds
use Rattle.playing.specs.Book.{empty_book}
use Rattle.playing.specs.Kept.{BeginsFit, RunKept, PlayKept}
use Rattle.playing.proofs.Read.{plays_fed}

-- an open with a fit state is accepted
opens : (s : State) (c : List ℕ) (q : Asked) (given : State) (x : Call) → q ≡ open_call given → MeetsBy q s c x
    → refusal (open_rows given.n given.places c) ≡ 0 → OpensBy q x.answer
opens s c q given x e m z =
    let met : Open given c x.answer x.state x.cells = subst (λ (y : Asked). MeetsBy y s c x) e m in
    let is : x.answer ≡ accepted [] = met.answer ∙ ap (λ (k : ℕ). reply k []) z in
    subst (λ (y : Asked). OpensBy y x.answer) (sym e) (subst (λ (r : Reply). Accepted r) (sym is) tt)

-- words whose first call is one code a list that begins with an accepted open
begins : (w c b b' : List ℕ) (xs : List Call) (s s' : State) (d : List ℕ) → 0 < length xs → CodedFrom w 0 b xs b' → Calls s c xs s' d → BeginsFit w c
    → BeginsOpen (feed xs)
begins w c b b' [] s s' d h y m f = let z : ⊥ = omega arith in absurd z
begins w c b b' (x ∷ xs) s s' d h (y, _) (m, _) f =
    opens s c x.asked (given_at w 0) x (y.asks ∙ ap (λ (q : Request). asked_by q (given_at w 0)) f.opens) m f.fit

pub kept : PlayKept
kept w made s s' c b a d b' a' p h f =
    let first = begins w c b b' p.calls s s' d (omega (arith, p.count)) p.coded p.made_so f in
    let e = plays_fed p in
    record {
      fed = sym e;
      begins = subst BeginsOpen e first;
      after = subst (λ (es : List Fed). AfterList s' d empty_book es) e (demand3 s s' c d empty_book p.calls p.made_so first);
    }

-- so it is of whatever the contract of `play` says of a run: its arguments a, its result r, and what is lent as it leaves it
pub play_kept : (κs : Lfts 4) (a : Dens κs kinds.ps) (r : (res_t kinds.r κs).Denot) (s : AtExit (ended_of 4 kinds.ps kinds.r) κs) (h : play.Learnt κs a r s)
    → 0 < r.made → BeginsFit a.1.0.now a.1.1.0.now
    → RunKept a.1.0.now s.1.1.1.1.0.now r.made h.1.calls (state_of r.store) s.1.1.0.now
play_kept κs a r s h made f = kept _ _ _ _ _ _ _ _ _ _ h.1 made f
