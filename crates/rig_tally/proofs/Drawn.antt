-- A fit table is drawn in the rising order: the cells hold every diagram of ten flags.
-- Assumes nothing.
use mathlib.Core.Path.{◌≡◌, refl}
use mathlib.Core.Bool.{true, false}
use mathlib.Core.List.{List, [], ◌∷◌}
use mathlib.Core.Option.{none}
use Prim.Native.Nat.{ℕ, ◌^◌, ◌≤◌}
use native.Mathlib.Omega.{arith}
use borrow.Author.Tests.{le-ltb, eq-eqb}
use lib.Dec.{ltb}
use lib.ListN.{length}
use Rattle.rule.specs.Bits.{below}
use Rattle.rule.specs.Table.{fit_length, fit_rows}
use Rattle.rule.specs.Level.{size}
use Rattle.rule.specs.Order.{flags, rising}
use Rattle.rule.specs.Cells.{most_cells, fit_cells, room}
use Rattle.rule.specs.Refusals.{refusal, build_rows}
use Rattle.rule.specs.Reply.{Reply, accepted, refused}
use Rattle.rule.specs.Calls.{Build, Replays}
use Rattle.rule.specs.Demands.{Fit}
use Rattle.theory.proofs.Refused.{refused_is}
use Rattle.theory.proofs.Drawing.{drawing-length}
use Rattle.theory.proofs.Orders.{in_places-length, rising_fit}
use Rattle.demands.proofs.Exists.{size_few}
use Rattle.demands.proofs.Stands.{built_drawing, built}
use Rattle.rig_tally.specs.Plays.{Plays}

module _ (n : ℕ) (t c : List ℕ) (few : n ≤ 10) (rows : length t ≡ 2 ^ n) (bits : fit_rows t ≡ true) (cs : length c ≡ most_cells) where
  fit : Fit n (rising n) t
  unfolding fit_length
  fit =
      record {
        few = few;
        kept_in = in_places-length (below n);
        order_fits = rising_fit n few;
        rows = eq-eqb (length t) (2 ^ n) rows;
        bits = bits;
      }

  -- so build refuses nothing
  none_refused : refusal (build_rows n t (rising n) c) ≡ 0
  unfolding fit_length fit_cells
  none_refused =
      let need = size (flags n (rising n)) t in
      let r : ltb (room c) need ≡ false = le-ltb (room c) need (omega (arith, size_few n (rising n) t fit)) in
      rw (le-ltb 10 n few, eq-eqb (length t) (2 ^ n) rows, bits, rising_fit n few, r, cs)

  pub never_refused : {k : ℕ} {zs d : List ℕ} → Build n t (rising n) c (refused k zs) d → ⊥
  never_refused {k} {zs} b = (refused_is k (refusal (build_rows n t (rising n) c)) zs _ b.answer).1 none_refused

  module _ {nodes root : ℕ} {d : List ℕ} (b : Build n t (rising n) c (accepted (nodes ∷ root ∷ [])) d) where
    lent : fit_cells d ≡ true
    unfolding fit_cells
    lent =
        let x = built_drawing n nodes root t (rising n) c d _ (in_places-length (below n)) b refl in
        rw (x.drawn, drawing-length n (rising n) t x.cells) x.lent

    pub plays : {log : List ℕ} {r : Reply} → Replays n (rising n) d nodes root none log r → Plays n t log r
    plays x =
        record {
          cells = d;
          used = nodes;
          root = root;
          lent = lent;
          drawn = (built n nodes root t (rising n) c d _ (in_places-length (below n)) b refl).drawn;
          replays = x;
        }
