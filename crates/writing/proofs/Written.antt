-- What the writer tests and computes: its rows and the file's length.
-- Assumes nothing.
use mathlib.Core.Path.{◌≡◌, refl, sym, ap, ◌∙◌}
use mathlib.Core.List.{List, [], ◌∷◌, ◌++◌, append_assoc}
use Prim.Native.Nat.{ℕ, zero, suc, ◌+◌, ◌*◌, ◌≤◌}
use native.Mathlib.Omega.{arith}
use borrow.Author.Tests.{ltb-false}
use lib.ListN.{length, length-append}
use lib.Seq.{length-take-le}
use Rattle.rule.specs.Order.{places, flags}
use Rattle.rule.specs.Cells.{records_in}
use Rattle.rule.specs.Refusals.{refusal, check_rows}
use Rattle.rule.specs.Reply.{accepted, reply}
use Rattle.rule.specs.Files.{longest_label, count_size, record_size, two, bit_if, if_some, record_bytes, map_of, file_of, write_rows, Writes}
use Rattle.theory.proofs.Refused.{passed}
use Rattle.theory.proofs.Sound.{sound_shape}
use Rattle.runs.specs.Run.{Puts}
use Rattle.runs.proofs.Puts.{puts_more, run_accepted}
use Rattle.encoding.proofs.Puts.{length_records}
use Rattle.checking.proofs.First.{check_taken, check_passes, none_refuses}
use Rattle.writing.specs.Write.{size_of, own_rows, Writable}

-- ---- what stands only where there is something

some-length : (k : ℕ) (l : List ℕ) {n : ℕ} → length l ≡ n → length (if_some k l) ≡ bit_if k n
some-length zero l e = refl
some-length (suc k) l e = e

-- ---- the file's length

pub size_is : (n : ℕ) (o c : List ℕ) (used root : ℕ) (l : List ℕ) → n ≤ length o → length (file_of n o c used root l) ≡ size_of n (length l) used
unfolding file_of
size_is n o c used root l h =
    let label = if_some (length l) (length l ∷ l) in
    let records = if_some used (two used ++ record_bytes (records_in c used)) in
    let one : length (length l ∷ l) ≡ length l + 1 = omega arith in
    let five : length (two used ++ record_bytes (records_in c used)) ≡ used * record_size + count_size = omega (arith, length_records c used) in
    omega (
      arith,
      length-append (flags n o) (label ++ records),
      length-append label records,
      length-take-le n o h,
      some-length (length l) (length l ∷ l) one,
      some-length used (two used ++ record_bytes (records_in c used)) five,
    )

-- its parts
pub file_parts : (n : ℕ) (o c : List ℕ) (used root : ℕ) (l : List ℕ)
    → length (file_of n o c used root l)
    ≡ 2 + length (flags n o) + length (if_some (length l) (length l ∷ l)) + length (if_some used (two used ++ record_bytes (records_in c used)))
unfolding file_of
file_parts n o c used root l =
    let label = if_some (length l) (length l ∷ l) in
    let records = if_some used (two used ++ record_bytes (records_in c used)) in
    omega (arith, length-append (flags n o) (label ++ records), length-append label records)

pub file_is : (n : ℕ) (o c : List ℕ) (used root : ℕ) (l : List ℕ) {m : ℕ} → m ≡ map_of (length l) used root
    → (m ∷ []) ++ (n ∷ []) ++ flags n o ++ if_some (length l) (length l ∷ l) ++ if_some used (two used ++ record_bytes (records_in c used))
    ≡ file_of n o c used root l
unfolding file_of
file_is n o c used root l e =
    rw e
    (ap (λ (x : List ℕ). map_of (length l) used root ∷ n ∷ x)
    (append_assoc (flags n o) (if_some (length l) (length l ∷ l)) (if_some used (two used ++ record_bytes (records_in c used)))))

-- and these, written one behind the other
pub file_puts : (n : ℕ) (o c : List ℕ) (used root : ℕ) (l : List ℕ) {b b₁ b₂ b₃ b₄ b₅ : List ℕ} {m p₁ p₂ p₃ p₄ r : ℕ}
    → length (file_of n o c used root l) ≤ length b
    → m ≡ map_of (length l) used root
    → Puts b 0 (m ∷ []) p₁ b₁
    → Puts b₁ p₁ (n ∷ []) p₂ b₂
    → Puts b₂ p₂ (flags n o) p₃ b₃
    → Puts b₃ p₃ (if_some (length l) (length l ∷ l)) p₄ b₄
    → Puts b₄ p₄ (if_some used (two used ++ record_bytes (records_in c used))) r b₅
    → Puts b 0 (file_of n o c used root l) r b₅
file_puts n o c used root l h e p q s t u =
    let label = if_some (length l) (length l ∷ l) in
    let long = file_parts n o c used root l in
    rw (← file_is n o c used root l e)
    (puts_more (omega (arith, length-append (flags n o) label)) (puts_more (omega arith) (puts_more (omega arith) (puts_more (omega arith) p q) s) t) u)

-- ---- the rows

module _ (n : ℕ) (o c : List ℕ) (used root : ℕ) (l bytes : List ℕ) where
  size : ℕ
  size = length (file_of n o c used root l)

  pub own_passes : {k : ℕ} (w : List ℕ) → accepted w ≡ reply (refusal (check_rows n o c used root)) (used ∷ []) → length o ≡ places
      → k ≡ refusal (own_rows (size_of n (length l) used) l bytes) → k ≡ refusal (write_rows n o c used root l bytes)
  unfolding size
  own_passes w e ten f =
      let (z, more) = check_passes n o c used root (own_rows size l bytes) w e in
      let enough : n ≤ length o = omega (arith, (check_taken n o c used root z).few) in
      f ∙ ap (λ (k : ℕ). refusal (own_rows k l bytes)) (sym (size_is n o c used root l enough)) ∙ more

  module _ (e : 0 ≡ refusal (write_rows n o c used root l bytes)) where
    pub writable : Writable n o c used root l bytes
    unfolding size
    writable =
        let (taken, own) = none_refuses n o c used root (own_rows size l bytes) (sym e) in
        let (short, (_, (fits, _))) = passed (own_rows size l bytes) refl own in
        let right = sound_shape n o c used taken.is_sound in
        let few = taken.few in
        record {
          few = few;
          held = right.fits;
          flags = λ j h. omega (arith, right.flag j h);
          short = ltb-false longest_label (length l) short;
          fits = ltb-false (length bytes) size fits;
        }

    pub write_accepted : {r : ℕ} {after : List ℕ} → Puts bytes 0 (file_of n o c used root l) r after → Writes n o c used root l bytes (accepted (r ∷ [])) after
    write_accepted {r} p =
        let whole : r ≡ length (file_of n o c used root l) = omega (arith, p.next_is) in
        rw whole (run_accepted (length (file_of n o c used root l) ∷ []) (sym e) p)
