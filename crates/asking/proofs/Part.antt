-- Tabulate into the first k of the bytes at hand, or into all of them where there are fewer: what is left in that part, and behind it; and a log that is the
-- first k of them, or all.
-- Assumes nothing.
use mathlib.Core.Path.{◌≡◌, refl, sym, ◌∙◌}
use mathlib.Core.List.{List, ◌++◌}
use mathlib.Core.Option.{Option}
use Prim.Native.Nat.{ℕ, ◌-◌, ◌≤◌, ◌<◌}
use native.Mathlib.Nat.{sub-zero}
use native.Mathlib.Omega.{arith}
use lib.ListN.{length, take, drop, drop_of_length-le, length-take}
use lib.Seq.{take_all, take_at, drop_at}
use Rattle.rule.specs.Reply.{Reply}
use Rattle.rule.specs.Calls.{State, Tabulate, Replay}

-- the part that was lent, and what is behind it
abbrev pub PartOf : State → List ℕ → ℕ → ℕ → List ℕ → Reply → State → List ℕ → Type 0
PartOf s c m k b r s' b' = Tabulate s c m (take k b) r s' (take k b') × (drop k b' ≡ drop k b)

module _ {s s' : State} {c : List ℕ} {m : ℕ} {r : Reply} where
  pub all_lent : (k : ℕ) (b b' : List ℕ) → length b ≤ k → length b' ≡ length b → Tabulate s c m b r s' b' → PartOf s c m k b r s' b'
  all_lent k b b' h e t =
      let h' : length b' ≤ k = omega arith in
      (rw (take_all k b h, take_all k b' h') t, drop_of_length-le b' h' ∙ sym (drop_of_length-le b h))

  pub first_lent : (k : ℕ) (b y : List ℕ) → k < length b → length y ≡ length (take (k - 0) b) → Tabulate s c m (take (k - 0) b) r s' y
      → PartOf s c m k b r s' (y ++ drop (k - 0) b)
  first_lent k b y h e t = go (k - 0) (sub-zero k) e t
    where
      go : (j : ℕ) → j ≡ k → length y ≡ length (take j b) → Tabulate s c m (take j b) r s' y → PartOf s c m k b r s' (y ++ drop j b)
      go j q e t =
          let l : length y ≡ k = e ∙ simp length-take (omega arith) in
          rw q (rw (take_at y (drop k b) k l, drop_at y (drop k b) k l) (rw q at t, refl))

module _ {s s' : State} {c : List ℕ} {m : ℕ} {pass : Option ℕ} {r : Reply} where
  pub all_played : (k : ℕ) (b : List ℕ) → length b ≤ k → Replay s c m pass b r s' → Replay s c m pass (take k b) r s'
  all_played k b h t = rw (take_all k b h) t

  pub first_played : (k : ℕ) (b : List ℕ) → Replay s c m pass (take (k - 0) b) r s' → Replay s c m pass (take k b) r s'
  first_played k b t = rw (sub-zero k) at t
