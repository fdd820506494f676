-- The book beside the store: after every call of a list that begins with an accepted open, each rule in the book is that of its node. Only a refused open
-- leaves another state than the store's own; all calls but an open are refused under it.
-- Assumes nothing.
use mathlib.Core.Path.{◌≡◌, refl, sym, ap, ◌∙◌, fun_ext}
use mathlib.Core.Logic.{◌⊎◌, inl, inr}
use mathlib.Core.Bool.{Bool, true, false, not, cond, true≢false}
use mathlib.Core.List.Memᴰ.{head}
use mathlib.Core.List.Memᴰ.{tail}
use mathlib.Core.List.{List, [], ◌∷◌, map, Memᴰ as In}
use mathlib.Core.Option.{Option, none, some, get_or}
use Prim.Native.Nat.{ℕ, zero, suc, ◌+◌, ◌^◌, ◌≤◌, ◌<◌}
use native.Mathlib.Omega.{arith}
use borrow.Author.Tests.{ltb-false, eqb-true, not-false}
use lib.Dec.{eqb, ltb}
use lib.ListN.{length, drop, replicate, length-replicate}
use Rattle.rule.specs.Bits.{below}
use Rattle.rule.specs.Tests.{each, same}
use Rattle.rule.specs.Order.{fit_order}
use Rattle.rule.specs.Cells.{fit_cells}
use Rattle.rule.specs.Walk.{table_of}
use Rattle.rule.specs.Sound.{sound}
use Rattle.rule.specs.Results.{constant_table, Making, flag, join, choose, fix, rules_among, made_from, made_in, needed, first_with, made_node}
use Rattle.rule.specs.Refusals.{Row, refusal, open_rows, constant_rows, making_rows}
use Rattle.rule.specs.Reply.{reply, Accepted, leaves}
use Rattle.rule.specs.Calls.{State, with_used, Open, Constant, Holds, HoldsOr, Make}
use Rattle.rule.specs.History.{Asked, open_call, constant_call, making_call, query_call, Call, MeetsBy, Meets, Calls, Fed, fed_of, feed, OpensBy, Opens, BeginsOpen, Book, lookup, in_book, is_there, rule_at, made_in_book, write_at, enter_by, enter, book_of}
use Rattle.rule.specs.Demands.{Agrees, Throughout}
use Rattle.rule.proofs.Book.{refused_silent}
use Rattle.theory.proofs.Tests.{and_split}
use Rattle.theory.proofs.Bits.{below_in}
use Rattle.theory.proofs.Sound.{sound_cleared}
use Rattle.theory.proofs.Walks.{walk_end}
use Rattle.theory.proofs.Refused.{row_passed, passed}

-- ---- what holds after each call

-- a state that every call but an open refuses, whatever the cells
abbrev pub Shut : State → Type 0
Shut s = ltb 10 s.n ≡ false → not (fit_order s.n s.places) ≡ false → ⊥

-- the cells are sound, and each rule in the book is that of its node
pub record Keeps (s : State) (c : List ℕ) (b : Book) : Type 0 where
  pub few : ltb 10 s.n ≡ false
  pub order_fits : not (fit_order s.n s.places) ≡ false
  pub lent : fit_cells c ≡ true
  pub is_sound : sound s.n s.places c s.used ≡ true
  pub same_n : b.n ≡ s.n
  pub rules : (m : ℕ) (t : List ℕ) → in_book b m ≡ some t → (m ≤ s.used + 1) × (table_of s.n c m ≡ t)

-- so it is of the state at hand, or of the one that a refused open took the place of
pub data After (s : State) (c : List ℕ) (b : Book) : Type 0 where
  live : Keeps s c b → After s c b
  shut : (g : State) → Keeps g c b → Shut s → After s c b

-- ---- the book

-- what a book has that has one more table
written_cases : (m k : ℕ) (t u : List ℕ) (ps : List (ℕ × List ℕ)) → lookup k ((m, t) ∷ ps) ≡ some u → ((m ≡ k) × (t ≡ u)) ⊎ (lookup k ps ≡ some u)
unfolding lookup
written_cases m k t u ps e = go (eqb m k) refl e
  where
    go : (b : Bool) → eqb m k ≡ b → cond b (some t) (lookup k ps) ≡ some u → ((m ≡ k) × (t ≡ u)) ⊎ (lookup k ps ≡ some u)
    go true q e = inl (eqb-true m k q, cc)
    go false q e = inr e

-- one more table in the book, of a node that the cells have by now
write_keeps : {s : State} {c d : List ℕ} {b : Book} (used m : ℕ) (t : List ℕ) → Keeps s c b → fit_cells d ≡ true → sound s.n s.places d used ≡ true
    → s.used ≤ used → ((m : ℕ) → m ≤ s.used + 1 → table_of s.n d m ≡ table_of s.n c m) → m ≤ used + 1 → table_of s.n d m ≡ t
    → Keeps (with_used s used) d (write_at m (some t) b)
write_keeps {s} {d} {b} used m t k f v le kept hm is-t =
    record {
      few = k.few;
      order_fits = k.order_fits;
      lent = f;
      is_sound = v;
      same_n = k.same_n;
      rules = λ i u p.
          elim (written_cases m i t u b.rules p) [
            | inl (q, z) ↦ (omega arith, ap (table_of s.n d) (sym q) ∙ is-t ∙ z)
            | inr q ↦ let (h, old) = k.rules i u q in (omega arith, kept i h ∙ old)
          ];
    }

module _ {s : State} {c : List ℕ} {b : Book} (k : Keeps s c b) where
  rule_same : (m : ℕ) → is_there (in_book b m) ≡ true → rule_at b m ≡ table_of s.n c m
  rule_same m h = go (in_book b m) refl h
    where
      go : (o : Option (List ℕ)) → in_book b m ≡ o → is_there o ≡ true → get_or (in_book b m) [] ≡ table_of s.n c m
      go none e h = absurd (true≢false (sym h))
      go (some t) e h = ap (λ (o : Option (List ℕ)). get_or o []) e ∙ sym (k.rules m t e).1

  -- of rules that are in the book a call makes the same there and in the store
  made_same : (x : Making) → each (λ m. is_there (in_book b m)) (rules_among x) ≡ true → made_from b.n (rule_at b) x ≡ made_in s.n c x
  unfolding each
  made_same (flag i) p = rw k.same_n
  made_same (join code f g) p =
      let (pf, p) = and_split _ _ p in
      let (pg, _) = and_split _ _ p in
      rw (k.same_n, rule_same f pf, rule_same g pg)
  made_same (choose f g h) p =
      let (pf, p) = and_split _ _ p in
      let (pg, p) = and_split _ _ p in
      let (ph, _) = and_split _ _ p in
      rw (k.same_n, rule_same f pf, rule_same g pg, rule_same h ph)
  made_same (fix m i v) p = rw (rule_same m (and_split _ _ p).0)

-- ---- one call

-- what the book is fed of a call that was asked so
abbrev fed : Asked → Call → Fed
fed q x = record { asked = q; answer = x.answer }

-- after the call the same holds, and what it wrote over an older table equals it
abbrev Step : Book → Asked → Call → Type 0
Step b q x = After x.state x.cells (enter_by b q x.answer) × Agrees b (fed q x)

-- a call that writes nothing in the book
silent_agrees : (b : Book) (e : Fed) → enter b e ≡ b → Agrees b e
silent_agrees b _ e m t u p q _ =
    let z : some t ≡ some u = sym p ∙ sym (ap (λ (b : Book). in_book b m) e) ∙ q in
    cc

-- a call that leaves the state and the cells as they were, and writes nothing
silent : {s : State} {c : List ℕ} {b : Book} (q : Asked) (x : Call) → x.state ≡ s → x.cells ≡ c → enter_by b q x.answer ≡ b → After s c b → Step b q x
silent {b} q x se ce e a = (rw (se, ce, e) a, silent_agrees b (fed q x) e)

-- a call that keeps the older nodes
kept_agrees : {s : State} {c d : List ℕ} {b : Book} {used : ℕ} (e : Fed) → Keeps s c b → Keeps (with_used s used) d (enter b e)
    → ((m : ℕ) → m ≤ s.used + 1 → table_of s.n d m ≡ table_of s.n c m) → Agrees b e
kept_agrees _ k k' kept m t u p q _ =
    let (h, old) = k.rules m t p in
    let (_, new) = k'.rules m u q in
    sym old ∙ sym (kept m h) ∙ new

-- none but an open is accepted under a shut state
shut_refused : (s : State) (rest : List Row) → Shut s → refusal ((ltb 10 s.n, 1) ∷ (not (fit_order s.n s.places), 4) ∷ rest) ≡ 0 → ⊥
shut_refused s rest h z =
    let (few, z) = row_passed (ltb 10 s.n) 0 ((not (fit_order s.n s.places), 4) ∷ rest) z in
    let (o, _) = row_passed (not (fit_order s.n s.places)) 3 rest z in
    h few o

-- ---- open

-- the table of an end node
end_table : (n : ℕ) (c : List ℕ) (v : ℕ) → v < 2 → table_of n c v ≡ constant_table n v
end_table n c v h = ap (λ (f : ℕ → ℕ). map f (below (2 ^ n))) (fun_ext λ r. walk_end c v r h)

-- the book as an accepted open writes it
abbrev opened_book : ℕ → Book
opened_book n = record { n = n; rules = (0, constant_table n 0) ∷ (1, constant_table n 1) ∷ [] }

opened_rules : (n : ℕ) (c : List ℕ) (m : ℕ) (t : List ℕ) → in_book (opened_book n) m ≡ some t → (m ≤ 1) × (table_of n c m ≡ t)
unfolding lookup
opened_rules n c m t p =
    elim (written_cases 0 m (constant_table n 0) t ((1, constant_table n 1) ∷ []) p) [
      | inl (q, z) ↦ (omega arith, ap (table_of n c) (sym q) ∙ end_table n c 0 (omega arith) ∙ z)
      | inr p ↦
          elim (written_cases 1 m (constant_table n 1) t [] p) [
            | inl (q, z) ↦ (omega arith, ap (table_of n c) (sym q) ∙ end_table n c 1 (omega arith) ∙ z)
            | inr p ↦ let z : ◌≡◌ {A = ℕ} 0 1 = cc in absurd (omega arith)
          ]
    ]

module _ (given : State) (c : List ℕ) where
  opened_keeps : refusal (open_rows given.n given.places c) ≡ 0 → Keeps (with_used given 0) (replicate (length c) 0) (opened_book given.n)
  unfolding fit_cells
  opened_keeps z =
      let (few, (o, (f, _))) = passed (open_rows given.n given.places c) refl z in
      record {
        few = few;
        order_fits = o;
        lent = rw (length-replicate {A = ℕ} (length c) 0) (not-false _ f);
        is_sound = sound_cleared given.n given.places (length c);
        same_n = refl;
        rules = opened_rules given.n (replicate (length c) 0);
      }

  refused_shut : (k : ℕ) → fit_cells c ≡ true → refusal (open_rows given.n given.places c) ≡ suc k → Shut given
  refused_shut k f e few o =
      let z : refusal (open_rows given.n given.places c) ≡ 0 = rw (few, o, f) in
      omega arith

  -- an open, where a refused one finds the same to hold
  open_step : (x : Call) (b : Book) → Open given c x.answer x.state x.cells → ((Accepted x.answer → ⊥) → (g : State) × Keeps g c b)
      → Step b (open_call given) x
  open_step x b y before = go (refusal (open_rows given.n given.places c)) refl y.state y.answer y.cells
    where
      go : (k : ℕ) → refusal (open_rows given.n given.places c) ≡ k → x.state ≡ leaves k (with_used given 0) given → x.answer ≡ reply k []
          → x.cells ≡ leaves k (replicate (length c) 0) c → Step b (open_call given) x
      go zero z se ae ce = (rw (se, ae, ce) (live (opened_keeps z)), λ m t u p q other. absurd (other (rw ae tt)))
      go (suc k) z se ae ce =
          let (g, w) = before (λ h. rw ae at h) in
          let e : enter_by b (open_call given) x.answer ≡ b = refused_silent b (open_call given) x.answer ae in
          (rw (se, ce, e) (shut g w (refused_shut k w.lent z)), silent_agrees b (fed (open_call given) x) e)

-- ---- constant

constant_step : {s : State} {c : List ℕ} {b : Book} (v : ℕ) (x : Call) → Constant s c v x.answer x.state x.cells → After s c b
    → Step b (constant_call v) x
constant_step {s} {c} {b} v x y a = go a (refusal rows) refl y.answer
  where
    call : Asked
    call = constant_call v

    rows : List Row
    rows = constant_rows s.n s.places c s.used v

    go : After s c b → (k : ℕ) → refusal rows ≡ k → x.answer ≡ reply k (v ∷ []) → Step b call x
    go a (suc k) z ae = silent call x y.state y.cells (refused_silent b call x.answer ae) a
    go (shut g w h) zero z ae = absurd (shut_refused s (drop 2 rows) h z)
    go (live w) zero z ae =
        let (_, (_, (_, (_, (p, _))))) = passed rows refl z in
        let h = ltb-false 1 v p in
        let is-t : table_of s.n c v ≡ constant_table b.n v =
        end_table s.n c v (omega arith) ∙ ap (λ (n : ℕ). constant_table n v) (sym w.same_n) in
        let e : enter_by b call x.answer ≡ write_at v (some (constant_table b.n v)) b = rw ae in
        let new : Keeps s c (enter_by b call x.answer) =
        rw e (write_keeps s.used v (constant_table b.n v) w w.lent w.is_sound (omega arith) (λ m h. refl) (omega arith) is-t) in
        (rw (y.state, y.cells) (live new), kept_agrees {used = s.used} (fed call x) w new (λ m h. refl))

-- ---- flag, join, choose and fix

-- the node that is made is one of those used then
first_le : (n : ℕ) (c t ms : List ℕ) (most : ℕ) → ((m : ℕ) → In m ms → m ≤ most) → first_with n c t ms ≤ most
unfolding first_with
first_le n c t [] most h = omega arith
first_le n c t (m ∷ ms) most h = go (same (table_of n c m) t) (first_le n c t ms most (λ i j. h i (tail j)))
  where
    go : (b : Bool) → first_with n c t ms ≤ most → elim b [ true ↦ m | false ↦ first_with n c t ms ] ≤ most
    go true ih = h m (head refl)
    go false ih = ih

made_le : (n : ℕ) (order c : List ℕ) (used : ℕ) (t : List ℕ) → made_node n order c used t ≤ used + needed n order c used t + 1
made_le n order c used t = go (eqb (needed n order c used t) 0)
  where
    go : (b : Bool) → cond b (first_with n c t (below (used + 2))) (used + needed n order c used t + 1) ≤ used + needed n order c used t + 1
    go true = omega (arith, first_le n c t (below (used + 2)) (used + 1) (λ m i. omega (arith, below_in i)))
    go false = omega arith

making_step : {s : State} {c : List ℕ} {b : Book} (x : Making) (l : Call) → Make s c x l.answer l.state l.cells → After s c b
    → Step b (making_call x) l
unfolding fit_cells
making_step {s} {c} {b} x l y a = go a (refusal rows) refl y.answer y.state y.cells
  where
    call : Asked
    call = making_call x

    rows : List Row
    rows = making_rows s.n s.places c s.used x

    t : List ℕ
    t = made_in s.n c x

    used : ℕ
    used = s.used + needed s.n s.places c s.used t

    node : ℕ
    node = made_node s.n s.places c s.used t

    -- the rule is written, or one among the arguments is not in the book
    keeps : Keeps s c b → Holds s c t l.cells → (q : Bool) → each (λ m. is_there (in_book b m)) (rules_among x) ≡ q
        → Keeps (with_used s used) l.cells (write_at node (cond q (some (made_from b.n (rule_at b) x)) none) b)
    keeps w h true q =
        write_keeps used node (made_from b.n (rule_at b) x) w (rw h.lent w.lent) h.is_sound (omega arith) h.kept
        (made_le s.n s.places c s.used t)
        (h.rule ∙ sym (made_same w x q))
    keeps w h false q =
        record {
          few = w.few;
          order_fits = w.order_fits;
          lent = rw h.lent w.lent;
          is_sound = h.is_sound;
          same_n = w.same_n;
          rules = λ i u p. let (hi, old) = w.rules i u p in (omega arith, h.kept i hi ∙ old);
        }

    go : After s c b → (k : ℕ) → refusal rows ≡ k → l.answer ≡ reply k (node ∷ []) → l.state ≡ leaves k (with_used s used) s → HoldsOr k s c t l.cells
        → Step b call l
    go a (suc k) z ae se h = silent call l se h (refused_silent b call l.answer ae) a
    go (shut g w h) zero z ae se _ = absurd (shut_refused s (drop 2 rows) h z)
    go (live w) zero z ae se h =
        let e : enter_by b call l.answer ≡ write_at node (made_in_book b x) b = rw ae in
        let new : Keeps (with_used s used) l.cells (enter_by b call l.answer) = rw e (keeps w h (each (λ m. is_there (in_book b m)) (rules_among x)) refl) in
        (rw se (live new), kept_agrees {used = used} (fed call l) w new h.kept)

-- ---- a list of calls

base : {s : State} {c : List ℕ} {b : Book} → After s c b → (g : State) × Keeps g c b
base {s} (live k) = (s, k)
base (shut g k _) = (g, k)

step : {s : State} {c : List ℕ} {b : Book} (q : Asked) (x : Call) → MeetsBy q s c x → After s c b → Step b q x
step {c} {b} (open_call given) x y a = open_step given c x b y (λ _. base a)
step (constant_call v) x y a = constant_step v x y a
step (making_call m) x y a = making_step m x y a
step (query_call q) x (y, e) a = silent (query_call q) x y.state e refl a

-- from an accepted open, whatever was before
first_step : (s : State) (c : List ℕ) (b : Book) (q : Asked) (x : Call) → MeetsBy q s c x → OpensBy q x.answer → Step b q x
first_step s c b (open_call given) x y h = open_step given c x b y (λ d. absurd (d h))
first_step s c b (constant_call v) x y h = absurd h
first_step s c b (making_call m) x y h = absurd h
first_step s c b (query_call q) x y h = absurd h

steps : {s s' : State} {c d : List ℕ} {b : Book} (xs : List Call) → Calls s c xs s' d → After s c b → After s' d (book_of b (feed xs))
steps [] (se, ce) a = rw (se, ce) a
steps {s = s} {c = c} {b = b} (x ∷ xs) (y, ys) a = steps {s = x.state} {c = x.cells} xs ys (step x.asked x y a).0

pub steps_from_open : (s s' : State) (c d : List ℕ) (b : Book) (xs : List Call) → Calls s c xs s' d → BeginsOpen (feed xs)
    → After s' d (book_of b (feed xs))
steps_from_open s s' c d b [] ys h = absurd h
steps_from_open s s' c d b (x ∷ xs) (y, ys) h = steps xs ys (first_step s c b x.asked x y h).0

-- what holds at an accepted open, and at each call from there on, holds throughout the list
module _ (P : Book → Fed → Type 0) (opens : (s : State) (c : List ℕ) (b : Book) (x : Call) → Meets s c x → Opens (fed_of x) → P b (fed_of x))
    (calls : (s : State) (c : List ℕ) (b : Book) (x : Call) → Meets s c x → After s c b → P b (fed_of x)) where
  throughout : {s : State} {c : List ℕ} {b : Book} (s' : State) (d : List ℕ) (xs : List Call) → Calls s c xs s' d → After s c b → Throughout P b (feed xs)
  throughout s' d [] ys a = tt
  throughout {s} {c} {b} s' d (x ∷ xs) (y, ys) a = (calls s c b x y a, throughout {s = x.state} {c = x.cells} s' d xs ys (step x.asked x y a).0)

  pub throughout_from_open : (s s' : State) (c d : List ℕ) (b : Book) (xs : List Call) → Calls s c xs s' d → BeginsOpen (feed xs) → Throughout P b (feed xs)
  throughout_from_open s s' c d b [] ys h = absurd h
  throughout_from_open s s' c d b (x ∷ xs) (y, ys) h = (opens s c b x y h, throughout {s = x.state} {c = x.cells} s' d xs ys (first_step s c b x.asked x y h).0)

-- so does that a table written over an older one equals it
pub agrees_from_open : (s s' : State) (c d : List ℕ) (b : Book) (xs : List Call) → Calls s c xs s' d → BeginsOpen (feed xs) → Throughout Agrees b (feed xs)
agrees_from_open =
    throughout_from_open Agrees (λ s c b x y h. (first_step s c b x.asked x y h).1) (λ s c b x y a. (step x.asked x y a).1)
