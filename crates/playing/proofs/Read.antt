-- What the book is fed of a run can be read off the words that code its calls and those that its answers stand in.
-- Assumes nothing.
use mathlib.Core.Path.{◌≡◌, refl, sym, ap, subst, ◌∙◌}
use mathlib.Core.List.{List, [], ◌∷◌, ◌++◌, map}
use Prim.Native.Nat.{ℕ, zero, suc, ◌+◌, ◌*◌}
use native.Mathlib.Omega.{arith}
use lib.ListN.{length, get_or, take, drop}
use lib.Seq.{drop-drop, ext_get_or}
use Rattle.rule.specs.Bits.{from, below}
use Rattle.rule.specs.Walk.{walk_values}
use Rattle.rule.specs.Log.{snapshots, Played, played_in, times_asked, tally_numbers, tally_of}
use Rattle.rule.specs.Results.{made_in, made_node, tabulating, walking, provoking, replaying, answered}
use Rattle.rule.specs.Refusals.{refusal, open_rows, constant_rows, making_rows, tabulate_rows, walk_rows, provoke_rows, replay_rows}
use Rattle.rule.specs.Reply.{Reply, accepted, refused, reply}
use Rattle.rule.specs.Calls.{State}
use Rattle.rule.specs.History.{Asked, open_call, constant_call, making_call, query_call, Call, MeetsBy, Calls, Fed, fed_of, feed}
use Rattle.theory.proofs.Bits.{map_below, length-below}
use Rattle.theory.proofs.Orders.{in_places-length}
use Rattle.theory.proofs.Log.{zero_tally}
use Rattle.coding.specs.Coded.{asked_at}
use Rattle.noting.specs.Noted.{note_words, value_places, note_of, notes, note_at, reply_by}
use Rattle.playing.specs.Played.{CodedFrom, Plays}
use Rattle.playing.specs.Book.{fed_at, fed_from, fed_played}

-- ---- one answer

-- an answer is the one that its words tell, if they tell so of an accepted and of a refused one with these values
told : (q : Asked) (values : List ℕ) (k : ℕ) {r : Reply} → reply_by q (note_of (accepted values)) ≡ accepted values
    → ((i : ℕ) → reply_by q (note_of (reply (suc i) values)) ≡ reply (suc i) values) → r ≡ reply k values → r ≡ reply_by q (note_of r)
told q values zero a b e = subst (λ (z : Reply). z ≡ reply_by q (note_of z)) (sym e) (sym a)
told q values (suc k) a b e = subst (λ (z : Reply). z ≡ reply_by q (note_of z)) (sym e) (sym (b k))

-- thirteen values are told by the words of a note
all_values : (l : List ℕ) → length l ≡ tally_numbers → map (λ i. get_or l i 0) value_places ≡ l
unfolding from
all_values l e =
    ext_get_or 0 (map (λ i. get_or l i 0) (below 13)) l (length-below (λ i. get_or l i 0) 13 ∙ sym e)
    (λ i h. map_below (λ i. get_or l i 0) 13 i 0 (omega (arith, h, length-below (λ i. get_or l i 0) 13)))

tally_length : (n : ℕ) (ps : List Played) → length (tally_of n ps) ≡ tally_numbers
tally_length n ps = omega (arith, in_places-length (map (times_asked ps) (below n)))

-- so it is of the answer of a call that met its contract
reply_read : (s : State) (c : List ℕ) (q : Asked) (x : Call) → MeetsBy q s c x → x.answer ≡ reply_by q (note_of x.answer)
reply_read s c (open_call given) x y = told (open_call given) [] (refusal (open_rows given.n given.places c)) refl (λ i. refl) y.answer
reply_read s c (constant_call v) x y =
    told (constant_call v) (v ∷ []) (refusal (constant_rows s.n s.places c s.used v)) refl (λ i. refl) y.answer
reply_read s c (making_call m) x y =
    told (making_call m) (made_node s.n s.places c s.used (made_in s.n c m) ∷ []) (refusal (making_rows s.n s.places c s.used m)) refl
    (λ i. refl)
    y.answer
reply_read s c (query_call (tabulating m)) x (y, _) =
    told (query_call (tabulating m)) [] (refusal (tabulate_rows s.n s.places c s.used m x.lent)) refl (λ i. refl) y.asks.answer
reply_read s c (query_call (walking m pass row)) x (y, _) =
    told (query_call (walking m pass row)) (walk_values c m row) (refusal (walk_rows s.n s.places c s.used m pass row)) refl (λ i. refl) y.asks.answer
reply_read s c (query_call (provoking m wanted p fixed ones)) x (y, _) =
    told (query_call (provoking m wanted p fixed ones)) (answered s.n c (provoking m wanted p fixed ones) []) (refusal (provoke_rows s.n s.places c s.used m wanted p fixed ones)) refl (λ i. refl) y.asks.answer
reply_read s c (query_call (replaying m pass)) x (y, _) =
    let values = tally_of s.n (played_in s.n c m (snapshots x.lent)) in
    let many : length values ≡ tally_numbers = tally_length s.n (played_in s.n c m (snapshots x.lent)) in
    told (query_call (replaying m pass)) values (refusal (replay_rows s.n s.places c s.used m pass x.lent)) (ap accepted (all_values values many))
    (λ i. ap (refused (suc i)) (sym (zero_tally s.n (played_in s.n c m (snapshots x.lent)))))
    y.asks.answer

-- ---- the calls of a list

fed-same : (q q' : Asked) (r : Reply) (note note' : List ℕ) → q ≡ q' → note' ≡ note → r ≡ reply_by q note
    → ◌≡◌ {A = Fed} (record { asked = q; answer = r }) (record { asked = q'; answer = reply_by q' note' })
fed-same q q' r note note' qe ne re = rw (re, ne, qe)

fed_read : (w a : List ℕ) (k : ℕ) (s : State) (c b : List ℕ) (xs : List Call) (s' : State) (d b' rest : List ℕ) → CodedFrom w k b xs b' → Calls s c xs s' d
    → drop (k * note_words) a ≡ notes xs ++ rest → feed xs ≡ fed_from w a k (length xs)
fed_read w a k s c b [] s' d b' rest y m e = refl
fed_read w a k s c b (x ∷ xs) s' d b' rest (y, ys) (m, ms) e =
    let note : note_at a k ≡ note_of x.answer = ap (λ (z : List ℕ). take note_words z) e in
    let this : fed_of x ≡ fed_at w a k =
    fed-same x.asked (asked_at w k) x.answer (note_of x.answer) (note_at a k) y.asks note (reply_read s c x.asked x m) in
    let next : (k + 1) * note_words ≡ k * note_words + note_words = omega arith in
    let others : drop ((k + 1) * note_words) a ≡ notes xs ++ rest =
    ap (λ (i : ℕ). drop i a) next ∙ sym (drop-drop note_words (k * note_words) a) ∙ ap (λ (z : List ℕ). drop note_words z) e in
    ap (λ (z : Fed). z ∷ feed xs) this
    ∙ ap (λ (zs : List Fed). fed_at w a k ∷ zs) (fed_read w a (k + 1) x.state x.cells _ xs s' d b' rest ys ms others)

pub plays_fed : {w : List ℕ} {made : ℕ} {s s' : State} {c b a d b' a' : List ℕ} (p : Plays w made s c b a s' d b' a')
    → feed p.calls ≡ fed_played w a' made
plays_fed {w} {made} {s} {s'} {c} {b} {a} {d} {b'} {a'} p =
    fed_read w a' 0 s c b p.calls s' d b' (drop (made * note_words) a) p.coded p.made_so p.noted ∙ ap (λ (i : ℕ). fed_from w a' 0 i) p.count
