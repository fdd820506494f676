-- Cells that are cleared from one place up to another.
-- Assumes nothing.
use mathlib.Core.Path.{◌≡◌, sym, ap, ◌∙◌}
use mathlib.Core.List.{List, ◌++◌}
use Prim.Native.Nat.{ℕ, ◌+◌, ◌-◌, ◌*◌, ◌≤◌, ◌<◌}
use native.Mathlib.Decide.{dec_lt}
use native.Mathlib.Omega.{arith}
use lib.ListN.{length, get_or, take, replicate, length-append, length-replicate, get_or-replicate, get_or-append}
use lib.Seq.{ext_get_or, length-take-le, get_or-take, get_or-append-add}
use Rattle.rule.specs.Cells.{width}
use Rattle.rule.proofs.Zeros.{zero_at}
use Rattle.cells.specs.Record.{clear_from}

-- d is c with 0 from a up to i
pub record Cleared (c : List ℕ) (a i : ℕ) (d : List ℕ) : Type 0 where
  pub from_a : a ≤ i
  pub within : i ≤ length c
  pub lent : length d ≡ length c
  pub before : (j : ℕ) → j < a → get_or d j 0 ≡ get_or c j 0
  pub zeros : (j : ℕ) → a ≤ j → j < i → get_or d j 0 ≡ 0

pub cleared_all : (c : List ℕ) (k i : ℕ) (d : List ℕ) → Cleared c (k * width) i d → length d ≤ i → d ≡ clear_from c k
unfolding clear_from
cleared_all c k i d s h =
    let e = s.lent in
    let f : k * width ≤ length c = omega (arith, s.from_a, s.within) in
    let t : length (take (k * width) c) ≡ k * width = length-take-le (k * width) c f in
    ext_get_or 0 d (take (k * width) c ++ replicate (length c - k * width) 0)
    (simp (length-append, length-take-le (k * width) c f, length-replicate {A = ℕ}) (omega arith))
    (λ j g. go t j g (dec_lt j (k * width)))
  where
    go : length (take (k * width) c) ≡ k * width → (j : ℕ) → j < length d → Dec (j < k * width) → get_or d j 0 ≡ get_or (take (k * width) c ++ replicate (length c - k * width) 0) j 0
    go t j g (yes b) =
        s.before j b ∙ sym (get_or-append (take (k * width) c) (replicate (length c - k * width) 0) 0 j (omega arith) ∙ get_or-take (k * width) c j 0 b)
    go t j g (no b) =
        let e = s.lent in
        let p : length (take (k * width) c) + (j - k * width) ≡ j = omega arith in
        s.zeros j (omega arith) (omega arith)
        ∙ sym (ap (λ (x : ℕ). get_or (take (k * width) c ++ replicate (length c - k * width) 0) x 0) (sym p)
        ∙ get_or-append-add (take (k * width) c) (replicate (length c - k * width) 0) (j - k * width) 0
        ∙ get_or-replicate (length c - k * width) (j - k * width) 0 0 (omega arith))

-- ---- cells that are cleared from a record on

module _ (c : List ℕ) (k : ℕ) (h : k * width ≤ length c) where
  front : length (take (k * width) c) ≡ k * width
  front = length-take-le (k * width) c h

  pub clear_length : length (clear_from c k) ≡ length c
  unfolding clear_from
  clear_length =
      length-append (take (k * width) c) (replicate (length c - k * width) 0)
      ∙ omega (arith, front, length-replicate {A = ℕ} (length c - k * width) 0)

  -- what stands before it is as it was
  pub clear_before : (i : ℕ) → i < k * width → get_or (clear_from c k) i 0 ≡ get_or c i 0
  unfolding clear_from
  clear_before i l =
      get_or-append (take (k * width) c) (replicate (length c - k * width) 0) 0 i (omega (arith, front)) ∙ get_or-take (k * width) c i 0 l

  pub clear_past : (i : ℕ) → k * width ≤ i → get_or (clear_from c k) i 0 ≡ 0
  unfolding clear_from
  clear_past i l =
      let e : i ≡ length (take (k * width) c) + (i - k * width) = omega (arith, front) in
      ap (λ (a : ℕ). get_or (take (k * width) c ++ replicate (length c - k * width) 0) a 0) e
      ∙ get_or-append-add (take (k * width) c) (replicate (length c - k * width) 0) (i - k * width) 0
      ∙ zero_at (length c - k * width) (i - k * width)
