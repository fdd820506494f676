-- Demand 3, whole: what is in the book after a list of calls answers so, and is brought out well.
-- Assumes nothing.
use mathlib.Core.Path.{◌≡◌, refl, sym, ap, subst, ◌∙◌}
use mathlib.Core.Logic.{◌≢◌}
use mathlib.Core.Bool.{Bool, true, false, not}
use mathlib.Core.List.{List, [], ◌∷◌, map}
use mathlib.Core.Option.{Option, none, some}
use Prim.Native.Nat.{ℕ, ◌+◌, ◌^◌, ◌≤◌, ◌<◌}
use native.Mathlib.Omega.{arith}
use borrow.Author.Tests.{le-ltb, ltb-false, leb-false, not-false}
use lib.Dec.{ltb}
use lib.ListN.{length, get_or, drop}
use Rattle.rule.specs.Table.{fit_length}
use Rattle.rule.specs.Order.{flags, fit_order}
use Rattle.rule.specs.Cells.{fit_cells}
use Rattle.rule.specs.Walk.{walk, walk_values, table_of}
use Rattle.rule.specs.Log.{snapshots, played_in, played_by}
use Rattle.rule.specs.Refusals.{Row, refusal, flag_count, order_places, tabulate_rows, walk_rows, provoke_rows, replay_rows}
use Rattle.rule.specs.Reply.{Reply, refused, reply, number_of, Accepted, leaves}
use Rattle.rule.specs.Calls.{State, Replays, Tabulate, Walk, Provoke, Replay}
use Rattle.rule.specs.Results.{tabulating, walking, provoking, replaying, answered}
use Rattle.rule.specs.History.{Asked, open_call, constant_call, making_call, query_call, Call, MeetsBy, OpensBy, Book, in_book}
use Rattle.rule.specs.Demands.{Gives, PassRuleSays, ProvokedInBook, log_rows_by, tally_by, ReplayedBy, ReplayedInBook, PassInBook, RuleKept, ObeysBy, Obeys, Demand3, NodesFit, RulesFit, pass_table}
use Rattle.theory.proofs.Walks.{length_table, table_row}
use Rattle.theory.proofs.Refused.{passed, behind_passed, refusal_le}
use Rattle.theory.proofs.Log.{zero_tally}
use Rattle.demands.proofs.Stands.{accepted_reply, accepted_zero, number_of_lem, number_was}
use Rattle.demands.proofs.Counts.{equally, equally_asked}
use Rattle.demands.proofs.Packed.{packed_well}
use Rattle.demands.proofs.Beside.{Keeps, After, live, shut, steps_from_open, throughout_from_open, agrees_from_open}
use Rattle.demands.proofs.PassRule as pass_rule
use Rattle.demands.proofs.Provocation as provocation
use Rattle.demands.proofs.RigLog as rig_log

-- ---- the number that tabulate gives

-- under a shut state it is 1, 2 or 4
shut_le : (a b c : Bool) (rest : List Row) → (a ≡ false → c ≡ false → ⊥) → refusal ((a, 1) ∷ (b, 2) ∷ (c, 4) ∷ rest) ≤ 4
shut_le true b c rest h = omega arith
shut_le false true c rest h = omega arith
shut_le false false true rest h = omega arith
shut_le false false false rest h = absurd (h refl refl)

-- of a rule in the book at most 5
tabulate_le : {s : State} {c : List ℕ} {b : Book} (m : ℕ) (t bytes : List ℕ) → After s c b → in_book b m ≡ some t
    → refusal (tabulate_rows s.n s.places c s.used m bytes) ≤ 5
tabulate_le {s} {c} m t bytes (live k) p =
    rw (k.is_sound, le-ltb (s.used + 1) m (k.rules m t p).0)
    (refusal_le 5 ((ltb 10 s.n, 1) ∷ (not (fit_length s.n bytes), 2) ∷ (not (fit_order s.n s.places), 4) ∷ (not (fit_cells c), 5) ∷ []) refl)
tabulate_le {s} {c} m t bytes (shut g k h) p =
    let rest = drop 3 (tabulate_rows s.n s.places c s.used m bytes) in
    omega (arith, shut_le (ltb 10 s.n) (not (fit_length s.n bytes)) (not (fit_order s.n s.places)) rest h)

-- ---- a rule in the book

module _ {s : State} {c : List ℕ} {b : Book} (a : After s c b) (m : ℕ) (t : List ℕ) (p : in_book b m ≡ some t) where
  -- where the state's flags and order are fit, it is that of its node
  node_rule : ltb 10 s.n ≡ false → not (fit_order s.n s.places) ≡ false → table_of s.n c m ≡ t
  node_rule few o = elim a [ live k ↦ (k.rules m t p).1 | shut g k h ↦ absurd (h few o) ]

  tabulated : (bytes after : List ℕ) (r : Reply) (s' : State) → Tabulate s c m bytes r s' after → Accepted r → after ≡ t
  tabulated bytes after r s' x h =
      let rows = tabulate_rows s.n s.places c s.used m bytes in
      let z = accepted_zero (refusal rows) [] x.asks.answer h in
      let (few, (_, (o, _))) = passed rows refl z in
      x.asks.bytes_are ∙ ap (λ (k : ℕ). leaves k (table_of s.n c m) bytes) z ∙ node_rule few o

  walked : (pass : Option ℕ) (row v : ℕ) (more : List ℕ) (r : Reply) (s' : State) → Walk s c m pass row r s' → Gives r (v ∷ more) → v ≡ get_or t row 0
  walked pass row v more r s' x g =
      let (z, e) = accepted_reply (refusal (walk_rows s.n s.places c s.used m pass row)) x.asks.answer g in
      let free = pass_rule.freely s.n s.used m row pass s.places c z in
      let (few, (o, (_, (_, (_, (h, _)))))) = passed (walk_rows s.n s.places c s.used m none row) refl free in
      let v-is : v ≡ walk c m row = cc in
      v-is ∙ sym (table_row s.n c m row (leb-false (2 ^ s.n) row h)) ∙ ap (λ (u : List ℕ). get_or u row 0) (node_rule few o)

  -- as the pass rule of a walk
  allowed : (k row : ℕ) (r : Reply) (s' : State) → Walk s c k (some m) row r s' → Accepted r → get_or t row 0 ≡ 1
  allowed k row r s' x h =
      let z = accepted_zero (refusal (walk_rows s.n s.places c s.used k (some m) row)) (walk_values c k row) x.asks.answer h in
      let ((few, (o, _)), e) = pass_rule.allowed s.n s.used k m row s.places c z in
      sym (ap (λ (u : List ℕ). get_or u row 0) (node_rule few o)) ∙ e

  forbidden : (k row : ℕ) (r : Reply) (s' : State) → Walk s c k (some m) row r s' → number_of r ≡ 14 → (row < length t) × (get_or t row 0 ≡ 0)
  forbidden k row r s' x h =
      let z = number_was (refusal (walk_rows s.n s.places c s.used k (some m) row)) (walk_values c k row) x.asks.answer h in
      let ((few, (o, (_, (_, (_, (_, (l, _))))))), e) = pass_rule.forbidden s.n s.used k m row s.places c z in
      let same = node_rule few o in (
        omega (arith, leb-false (2 ^ s.n) row l, ap length same, length_table s.n c m),
        sym (ap (λ (u : List ℕ). get_or u row 0) same) ∙ e,
      )

  as_pass_rule : (k row : ℕ) (r : Reply) (s' : State) → Walk s c k (some m) row r s' → PassRuleSays t row r
  as_pass_rule k row r s' x = (allowed k row r s' x, forbidden k row r s' x)

  there : (bytes after : List ℕ) (r : Reply) (s' : State) → Tabulate s c m bytes r s' after → (number_of r ≢ 6) × (number_of r ≢ 7)
  there bytes after r s' x =
      let e = ap number_of x.asks.answer ∙ number_of_lem (refusal (tabulate_rows s.n s.places c s.used m bytes)) [] in
      let h = tabulate_le m t bytes a p in
      (λ q. omega arith, λ q. omega arith)

rule_kept : {s : State} {c : List ℕ} {b : Book} → After s c b → (m : ℕ) (t : List ℕ) → in_book b m ≡ some t → RuleKept s c m t
rule_kept a m t p =
    record {
      answers = record { tabulated = tabulated a m t p; walked = walked a m t p; as_pass_rule = as_pass_rule a m t p; there = there a m t p };
      brought_out = λ bytes after r s' x h n nodes root order cells w d y q z g.
          packed_well (rw (tabulated a m t p bytes after r s' x h) at z) g;
    }

-- ---- a provoke of two rules in the book

-- the cells and two of their nodes are fit
nodes_fit : {s : State} {c : List ℕ} {b : Book} → Keeps s c b → (m p : ℕ) → m ≤ s.used + 1 → p ≤ s.used + 1
    → NodesFit s.n s.used m p s.places c
nodes_fit {s} k m p there-m there-p =
    record {
      few = ltb-false 10 s.n k.few;
      order_fits = not-false _ k.order_fits;
      lent = k.lent;
      is_sound = k.is_sound;
      rule = there-m;
      pass_rule = there-p;
    }

in_book_lem : {s : State} {c : List ℕ} {b : Book} → After s c b → (m p : ℕ) (t u : List ℕ) → in_book b m ≡ some t → in_book b p ≡ some u
    → (wanted fixed ones : ℕ) (r : Reply) (s' : State) → Provoke s c m wanted p fixed ones r s' → ProvokedInBook t wanted u fixed ones r
in_book_lem {s} {c} (live k) m p t u e f wanted fixed ones r s' x =
    let (there-m, is-t) = k.rules m t e in
    let (there-p, is-u) = k.rules p u f in
    let by = provocation.lowest s.n s.used m wanted p fixed ones s.places c x.asks in
    let fit = provocation.neither s.n s.used m wanted p fixed ones s.places c x.asks (nodes_fit k m p there-m there-p) in
    (rw (is-t, is-u) at by, fit.0, fit.1)
in_book_lem {s} {c} (shut g k h) m p t u e f wanted fixed ones r s' x =
    let rows = provoke_rows s.n s.places c s.used m wanted p fixed ones in
    let number = ap number_of x.asks.answer ∙ number_of_lem (refusal rows) (answered s.n c (provoking m wanted p fixed ones) []) in
    let few = shut_le (ltb 10 s.n) false (not (fit_order s.n s.places)) (drop 2 rows) h in (
      record {
        row_is = λ a.
            let (n-fits, (o, _)) = passed rows refl (accepted_zero (refusal rows) (answered s.n c (provoking m wanted p fixed ones) []) x.asks.answer a) in
            absurd (h n-fits o);
        none_is = λ q. absurd (omega (arith, q, number, few));
      },
      (λ q. omega (arith, q, number, few)),
      (λ q. omega (arith, q, number, few)),
    )

-- ---- a log that is played through a rule in the book

-- the cells and the nodes are fit, under a pass rule in the book or none
rules_fit : {s : State} {c : List ℕ} {b : Book} → Keeps s c b → (m : ℕ) (pass : Option ℕ) (t : List ℕ) (u : Option (List ℕ)) → in_book b m ≡ some t
    → PassInBook b pass u → RulesFit s.n s.used m pass s.places c
rules_fit k m none t u e f = nodes_fit k m 1 (k.rules m t e).0 (omega arith)
rules_fit k m (some p) t u e (v, _, g) = nodes_fit k m p (k.rules m t e).0 (k.rules p v g).0

-- the book has the pass rule's table
pass_table_lem : {s : State} {c : List ℕ} {b : Book} → Keeps s c b → (pass : Option ℕ) (u : Option (List ℕ)) → PassInBook b pass u → pass_table s.n c pass ≡ u
pass_table_lem k none u f = sym f
pass_table_lem k (some p) u (v, e, g) = ap some (k.rules p v g).1 ∙ sym e

-- under a shut state 1 or 4 comes ahead of all other rows
shut_reply : (a b : Bool) (rest more : List Row) (values other : List ℕ) → (a ≡ false → b ≡ false → ⊥) → map {B = ℕ} (λ v. 0) values ≡ map (λ v. 0) other
    → reply (refusal ((a, 1) ∷ (b, 4) ∷ rest)) values ≡ reply (refusal ((a, 1) ∷ (b, 4) ∷ more)) other
shut_reply true b rest more values other h e = ap (refused 1) e
shut_reply false true rest more values other h e = ap (refused 4) e
shut_reply false false rest more values other h e = absurd (h refl refl)

-- else the log goes by the book's tables
log_in_book : {s : State} {c : List ℕ} {b : Book} → After s c b → (m : ℕ) (pass : Option ℕ) (t : List ℕ) (u : Option (List ℕ)) → in_book b m ≡ some t
    → PassInBook b pass u → (log : List ℕ) (r : Reply) (s' : State) → Replay s c m pass log r s' → ReplayedInBook s.n s.places t u log r
log_in_book {s} {c} (live k) m pass t u e f log r s' x =
    let by : ReplayedBy s.n s.places t u log r =
    subst (λ (v : Option (List ℕ)). ReplayedBy s.n s.places t v log r) (pass_table_lem k pass u f)
    (subst (λ (v : List ℕ). ReplayedBy s.n s.places v (pass_table s.n c pass) log r) (k.rules m t e).1
    (rig_log.by_tables s.n s.used m pass s.places c log x.asks (rules_fit k m pass t u e f))) in
    by ∙ ap (λ (i : ℕ). reply i (tally_by s.n s.places t log))
    (sym (behind_passed (flag_count s.n ∷ order_places s.n s.places ∷ []) (log_rows_by s.n u log) (k.few, (k.order_fits, tt))))
log_in_book {s} {c} (shut g k h) m pass t u e f log r s' x =
    let n = s.n in
    x.asks.answer
    ∙ shut_reply (ltb 10 n) (not (fit_order n s.places)) (drop 2 (replay_rows n s.places c s.used m pass log)) (log_rows_by n u log)
    (answered n c (replaying m pass) log)
    (tally_by n s.places t log)
    h
    (zero_tally n (played_in n c m (snapshots log)) ∙ sym (zero_tally n (played_by (flags n s.places) t (snapshots log))))

-- and it is refused under neither 6 nor 7
log_there : {s : State} {c : List ℕ} {b : Book} → After s c b → (m : ℕ) (pass : Option ℕ) (t : List ℕ) (u : Option (List ℕ)) → in_book b m ≡ some t
    → PassInBook b pass u → (log : List ℕ) (r : Reply) → Replays s.n s.places c s.used m pass log r → (number_of r ≢ 6) × (number_of r ≢ 7)
log_there {s} {c} (live k) m pass t u e f log r x =
    rig_log.neither s.n s.used m pass s.places c log x (rules_fit k m pass t u e f)
log_there {s} {c} (shut g k h) m pass t u e f log r x =
    let rows = replay_rows s.n s.places c s.used m pass log in
    let number = ap number_of x.answer ∙ number_of_lem (refusal rows) (answered s.n c (replaying m pass) log) in
    let few = shut_le (ltb 10 s.n) false (not (fit_order s.n s.places)) (drop 2 rows) h in
    (λ q. omega (arith, q, number, few), λ q. omega (arith, q, number, few))

-- ---- the list's own walks, provokes and logs

opens_obey : (b : Book) (q : Asked) (r : Reply) → OpensBy q r → ObeysBy b q r
opens_obey b (open_call given) r h = tt
opens_obey b (constant_call v) r h = absurd h
opens_obey b (making_call x) r h = absurd h
opens_obey b (query_call q) r h = absurd h

call_obeys : {s : State} {c : List ℕ} {b : Book} (q : Asked) (x : Call) → MeetsBy q s c x → After s c b → ObeysBy b q x.answer
call_obeys (open_call given) x y a = tt
call_obeys (constant_call v) x y a = tt
call_obeys (making_call m) x y a = tt
call_obeys (query_call (tabulating m)) x y a = tt
call_obeys (query_call (walking m none row)) x y a = tt
call_obeys (query_call (walking m (some p) row)) x (y, _) a =
    λ t e. as_pass_rule a p t e m row x.answer x.state (record { state = y.state; asks = record { answer = y.asks.answer; bytes_are = refl } })
call_obeys (query_call (provoking m wanted p fixed ones)) x (y, _) a =
    λ t u e f.
    in_book_lem a m p t u e f wanted fixed ones x.answer x.state (record { state = y.state; asks = record { answer = y.asks.answer; bytes_are = refl } })
call_obeys (query_call (replaying m pass)) x (y, _) a =
    λ t u e f. log_there a m pass t u e f x.lent x.answer (record { answer = y.asks.answer; bytes_are = refl })

-- ---- the list

pub demand3 : Demand3
demand3 first s cells c b xs ys h =
    record {
      kept = rule_kept (steps_from_open first s cells c b xs ys h);
      provoked = in_book_lem (steps_from_open first s cells c b xs ys h);
      replayed = log_in_book (steps_from_open first s cells c b xs ys h);
      rewritten = agrees_from_open first s cells c b xs ys h;
      obeyed = throughout_from_open Obeys (λ s c b x y h. opens_obey b x.asked x.answer h) (λ s c b x y a. call_obeys x.asked x y a) first s cells c b xs
          ys h;
      equally = equally;
      equally_asked = equally_asked;
    }
