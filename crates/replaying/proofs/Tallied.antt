-- A log's snapshots tallied one after the other.
-- Assumes nothing.
use mathlib.Core.Path.{◌≡◌, refl, sym, ap, ◌∙◌}
use mathlib.Core.List.{List, [], ◌∷◌, ◌++◌}
use Prim.Native.Nat.{ℕ, ◌+◌, ◌/◌, ◌≤◌, ◌<◌}
use native.Mathlib.Omega.{arith}
use native.Mathlib.Numerals.{add-one}
use lib.ListN.{length, get_or, take, length-take}
use lib.Seq.{take-suc, take_all}
use Rattle.rule.specs.Sets.{flag_set}
use Rattle.rule.specs.Walk.{walk, flags_asked}
use Rattle.rule.specs.Log.{Played, snapshots, played}
use Rattle.theory.proofs.Log.{snapshots-length, played-more, played-length}
use Rattle.tallying.specs.declared.Tally.{Tally}
use Rattle.tallying.specs.Tally.{no_tally, tally_for, next_tally, Counts}
use Rattle.tallying.proofs.Laws.{last_answer, none-played, last_more, tally_more, counts_of}

module _ (c : List ℕ) (m : ℕ) (log : List ℕ) where
  -- the first i snapshots, as they are played
  abbrev pub first : ℕ → List Played
  first i = played (walk c m) (flags_asked c m) (take i (snapshots log))

  -- they are tallied, and the last of them answered so
  pub record Tallied (i : ℕ) (t : Tally) (last : ℕ) : Type 0 where
    pub tally_is : t ≡ tally_for (first i)
    pub last_is : last ≡ last_answer 0 (first i)

  pub none_tallied : Tallied 0 no_tally 0
  unfolding played last_answer
  none_tallied = record { tally_is = none-played; last_is = refl }

  module _ (i : ℕ) (l : i < length log / 2) where
    -- one more
    first_more : first (i + 1) ≡ first i ++ ((walk c m (get_or (snapshots log) i 0), flag_set (flags_asked c m (get_or (snapshots log) i 0))) ∷ [])
    first_more =
        rw (add-one i)
        (ap (played (walk c m) (flags_asked c m)) (take-suc (snapshots log) i 0 (omega (arith, snapshots-length log)))
        ∙ played-more (walk c m) (flags_asked c m) (take i (snapshots log)) (get_or (snapshots log) i 0))

    module _ {t : Tally} {last : ℕ} (s : Tallied i t last) where
      pub counts : Counts t
      counts = rw s.tally_is (counts_of (first i))

      pub played_is : t.played ≡ i
      played_is =
          ap (λ (x : Tally). x.played) s.tally_is
          ∙ played-length (walk c m) (flags_asked c m) (take i (snapshots log))
          ∙ simp length-take (omega (arith, snapshots-length log))

      pub one_tallied : {row answer set : ℕ} → row ≡ get_or (snapshots log) i 0 → answer ≡ walk c m row → set ≡ flag_set (flags_asked c m row) → answer < 2
          → {u : Tally} → u ≡ next_tally t last answer set → Tallied (i + 1) u answer
      one_tallied {row} {answer} {set} r a f two e =
          let p : Played = (answer, set) in
          let here : first (i + 1) ≡ first i ++ (p ∷ []) = first_more ∙ rw (← r, ← a, ← f) in
          record {
            tally_is = e ∙ ap (λ (x : Tally). next_tally x last answer set) s.tally_is ∙ tally_more (first i) p last two s.last_is ∙ ap tally_for (sym here);
            last_is = sym (last_more 0 (first i) p) ∙ ap (last_answer 0) (sym here);
          }

  pub all_tallied : (i : ℕ) (t : Tally) (last : ℕ) → length log / 2 ≤ i → Tallied i t last → t ≡ tally_for (played (walk c m) (flags_asked c m) (snapshots log))
  all_tallied i t last h s =
      s.tally_is ∙ ap (λ (rows : List ℕ). tally_for (played (walk c m) (flags_asked c m) rows)) (take_all i (snapshots log) (omega (arith, snapshots-length log)))
