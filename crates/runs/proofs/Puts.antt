-- Runs of bytes, written one behind the other.
-- Assumes nothing.
use mathlib.Core.Path.{◌≡◌, refl, ap, ◌∙◌}
use mathlib.Core.List.{List, [], ◌∷◌, ◌++◌, append_assoc}
use Prim.Native.Nat.{ℕ, ◌+◌, ◌≤◌, ◌<◌}
use native.Mathlib.Omega.{arith}
use lib.ListN.{length, take, drop, set, length-append, length-drop}
use lib.Seq.{length-take-le, take_at, take-length, drop-append-add, drop-drop, sets-eq, paste-zero}
use borrow.Rule.Slice.PartMut.{put_mid}
use Rattle.std.proofs.lemmas.Slice.{put_mid-paste}
use Rattle.rule.specs.Reply.{accepted, WritesRun}
use Rattle.runs.specs.Run.{over, Puts}

module _ (b : List ℕ) (at : ℕ) (x : List ℕ) (h : at + length x ≤ length b) where
  front : length (take at b ++ x) ≡ at + length x
  front = length-append (take at b) x ∙ omega (arith, length-take-le at b (omega arith))

  over_length : length (over b at x) ≡ length b
  unfolding over
  over_length =
      length-append (take at b ++ x) (drop (at + length x) b) ∙ omega (arith, front, length-drop (at + length x) b)

over-more : (b : List ℕ) (at : ℕ) (x y : List ℕ) → at + (length x + length y) ≤ length b
    → over (over b at x) (at + length x) y ≡ over b at (x ++ y)
unfolding over
over-more b at x y h =
    let p = take at b ++ x in
    let d = drop (at + length x) b in
    let e : length p ≡ at + length x = front b at x (omega arith) in
    let past : at + length x + length y ≡ length p + length y = omega (arith, e) in
    let whole : at + length x + length y ≡ at + length (x ++ y) = omega (arith, length-append x y) in
    let rest : drop (at + length x + length y) (p ++ d) ≡ drop (at + length (x ++ y)) b =
    ap (λ (k : ℕ). drop k (p ++ d)) past ∙ drop-append-add p d (length y) ∙ drop-drop (length y) (at + length x) b ∙ ap (λ (k : ℕ). drop k b) whole in
    ap (λ (l : List ℕ). l ++ y ++ drop (at + length x + length y) (p ++ d)) (take_at p d (at + length x) e)
    ∙ ap (λ (l : List ℕ). p ++ y ++ l) rest
    ∙ ap (λ (l : List ℕ). l ++ drop (at + length (x ++ y)) b) (append_assoc (take at b) x y)

-- ---- a run behind another

pub puts_length : {b x d : List ℕ} {at m : ℕ} → Puts b at x m d → at + length x ≤ length b → length d ≡ length b
puts_length {b} {x} {at} p h = ap length p.after_is ∙ over_length b at x h

pub puts_more : {b x y d e : List ℕ} {at m r : ℕ} → at + (length x + length y) ≤ length b → Puts b at x m d → Puts d m y r e → Puts b at (x ++ y) r e
puts_more {b} {x} {y} {at} h p q =
    record {
      next_is = omega (arith, q.next_is, p.next_is, length-append x y);
      after_is = q.after_is ∙ rw (p.after_is, p.next_is) (over-more b at x y h);
    }

-- where the last place is known
pub puts_then : {b x y d e : List ℕ} {at m r : ℕ} → r ≤ length b → Puts b at x m d → Puts d m y r e → Puts b at (x ++ y) r e
puts_then h p q = puts_more (omega (arith, p.next_is, q.next_is)) p q

pub puts_none : (b : List ℕ) (at : ℕ) → Puts b at [] at b
unfolding over
puts_none b at = record { next_is = omega arith; after_is = paste-zero b at [] }

pub puts_one : (b : List ℕ) (at v : ℕ) → at < length b → Puts b at (v ∷ []) (at + 1) (set b at v)
unfolding over
puts_one b at v h = record { next_is = refl; after_is = sets-eq (v ∷ []) b at (omega arith) }

-- a run that went into bytes of one length ends within them
pub puts_within : {b x d : List ℕ} {at m : ℕ} → Puts b at x m d → at ≤ length b → length d ≡ length b → m ≤ length b
unfolding over
puts_within {b} {x} {d} {at} p h e =
    let l = ap length p.after_is in
    omega (
      arith,
      p.next_is,
      length-append (take at b ++ x) (drop (at + length x) b),
      length-append (take at b) x,
      length-take-le at b h,
    )

-- a run copied into its places
pub puts_run : (b : List ℕ) (at k : ℕ) {m : ℕ} {run d : List ℕ} → d ≡ run → length run ≡ k → m ≡ at + k → Puts b at run m (put_mid at k b d)
unfolding over
puts_run b at k {run = run} {d} e f g =
    record {
      next_is = omega (arith, f, g);
      after_is = put_mid-paste at k b d run (length run) e f refl ∙ ap (λ (l : List ℕ). take at b ++ l ++ drop (at + length run) b) (take-length run);
    }

-- a call that writes a run into the first of the lent bytes, accepted
pub run_accepted : {k r : ℕ} {run bytes after : List ℕ} (values : List ℕ) → k ≡ 0 → Puts bytes 0 run r after → WritesRun k run values bytes (accepted values) after
unfolding over
run_accepted {run = run} values z p =
    let whole : 0 + length run ≡ length run = omega arith in
    record { answer = rw z; bytes_are = p.after_is ∙ rw (z, whole) }
