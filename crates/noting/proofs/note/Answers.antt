-- `noting::note` meets its contract: the number is written, and the values behind it.
-- Assumes nothing.
use mathlib.Core.Path.{◌≡◌, sym, ap, ◌∙◌}
use mathlib.Core.List.{List, ◌++◌, ◌∷◌, append_assoc}
use Prim.Native.Nat.{ℕ, suc, ◌+◌, ◌*◌, ◌-◌, ◌≤◌}
use native.Mathlib.Numerals.{add-one}
use native.Mathlib.Omega.{arith}
use Rattle.std.proofs.Common.{rules}
use lib.ListN.{length, take, drop, set, length-set}
use lib.Seq.{sets, sets-eq, drop-drop}
use borrow.Rule.Slice.PartMut.{put_mid}
use Rattle.noting.specs.Noted.{note_words}
use Rattle.noting.proofs.note.Goals as goal

behind : (a ys values : List ℕ) (to k : ℕ) {number number' : ℕ} → number ≡ number' → ys ≡ values → k ≡ length values → to + 1 + length values ≤ length a
    → put_mid (to + 1) k (set a to number) ys ≡ sets a to (number' ∷ values)
behind a ys values to k {number} {number'} e f g h =
    let b = set a to number' in
    rw (e, f, g, add-one to) (sym (append_assoc (take (suc to) b) values (drop (length values) (drop (suc to) b)))
    ∙ ap (λ (l : List ℕ). take (suc to) b ++ values ++ l) (drop-drop (length values) (suc to) b)
    ∙ sym (sets-eq values b (suc to) (simp length-set (omega arith))))

pub returns : goal.returns
returns c =
    let to = c.args.k * note_words in
    behind c.args.answers.now c.copy_from_slice.new.self _ to (to + 14 - (to + 1))
    c.noted-words.ensures.0
    (c.copy_from_slice.ensures.after ∙ c.noted-words.ensures.1)
    (search rules)
    (search rules)
