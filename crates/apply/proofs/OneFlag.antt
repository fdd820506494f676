-- The rule of one flag: its two branches are the end nodes.
-- Assumes nothing.
use mathlib.Core.Path.{◌≡◌, refl, sym, ap, ◌∙◌}
use mathlib.Core.Logic.{◌≢◌}
use mathlib.Core.Bool.{false}
use mathlib.Core.List.{List}
use Prim.Native.Nat.{ℕ, ◌^◌, ◌<◌}
use native.Mathlib.Omega.{arith}
use lib.ListN.{length, get_or}
use Rattle.rule.specs.Bits.{bit, set_bit}
use Rattle.rule.specs.Table.{cofactor, depends}
use Rattle.rule.specs.Walk.{table_of}
use Rattle.rule.specs.Results.{constant_table, flag_table}
use Rattle.theory.proofs.Bits.{bit-same, bit_other, set_bit_lt}
use Rattle.theory.proofs.Cofactor.{length-cofactor, cofactor_row, not-depends}
use Rattle.theory.proofs.Levels.{level_lt}
use Rattle.theory.proofs.Walks.{rows_eq, length-tabled, tabled_row}
use Rattle.theory.proofs.Apply.{end_table}
use Rattle.levels.specs.declared.level.Levels.{Levels}
use Rattle.unique.specs.declared.node.Grown.{Grown}
use Rattle.record_index.specs.Index.{Indexed}
use Rattle.unique.specs.Node.{found_reply, MakesNode, above}
use Rattle.unique.proofs.Branches.{Split}
use Rattle.apply.specs.Grow.{Ready, Comes}
use Rattle.apply.proofs.Down.{lev, ord, end_level, there, made}

module _ (n i : ℕ) where
  -- a row of the rule with a flag fixed
  fixed_row : (u b r : ℕ) → u < n → b < 2 → r < 2 ^ n → get_or (cofactor u b (flag_table n i)) r 0 ≡ bit (set_bit r u b) i
  fixed_row u b r hu hb h =
      cofactor_row u b (flag_table n i) r (omega (arith, length-tabled n (λ (r : ℕ). bit r i)))
      ∙ tabled_row n (λ (r : ℕ). bit r i) (set_bit r u b) (set_bit_lt n r u b h hu hb)

  length_fixed : (u b : ℕ) → length (cofactor u b (flag_table n i)) ≡ 2 ^ n
  length_fixed u b = length-cofactor u b (flag_table n i) ∙ length-tabled n (λ (r : ℕ). bit r i)

  -- with its own flag fixed it is constant
  own_fixed : i < n → (b : ℕ) → b < 2 → cofactor i b (flag_table n i) ≡ constant_table n b
  own_fixed h b hb =
      rows_eq n (cofactor i b (flag_table n i)) (constant_table n b) (length_fixed i b) (length-tabled n (λ (r : ℕ). b))
      (λ r l. fixed_row i b r h hb l ∙ bit-same r i b hb ∙ sym (tabled_row n (λ (r : ℕ). b) r l))

  -- and it ignores every other
  ignores_other : (u : ℕ) → u < n → u ≢ i → depends u (flag_table n i) ≡ false
  ignores_other u h d =
      not-depends u (flag_table n i)
      (rows_eq n (cofactor u 0 (flag_table n i)) (cofactor u 1 (flag_table n i)) (length_fixed u 0) (length_fixed u 1)
      (λ r l.
      fixed_row u 0 r h (omega arith) l ∙ bit_other r u i 0 (omega arith) d ∙ sym (fixed_row u 1 r h (omega arith) l ∙ bit_other r u i 1 (omega arith) d)))

module _ {l : Levels} {c index : List ℕ} {used i : ℕ} (r : Ready l c used index) (h : i < l.n) where
  flag_split : Split l.n l.order.places (lev l i) i (flag_table l.n i)
  flag_split =
      record {
        is_order = ord r;
        rows = length-tabled l.n _;
        ignores = λ u hu g. ignores_other l.n i u hu (λ e. omega (arith, ap (lev l) e));
        flag = h;
        place = refl;
      }

  end_branch : (m : ℕ) → m < 2 → table_of l.n c m ≡ cofactor i m (flag_table l.n i)
  end_branch m g = end_table l.n c m g ∙ sym (own_fixed l.n i h m g)

  pub flag_made : {p : Grown} {d next : List ℕ} → MakesNode c used i 0 1 p.used (found_reply p.found) d → Indexed d p.used next
      → Comes l (flag_table l.n i) 0 c used p d next
  flag_made m x =
      made flag_split (omega arith)
      (end_branch 0 (omega arith)) (there r {at = l.n} (record { node = omega arith; later = omega (arith, end_level r {m = 0} (omega arith)) }) refl)
      (end_branch 1 (omega arith)) (there r {at = l.n} (record { node = omega arith; later = omega (arith, end_level r {m = 1} (omega arith)) }) refl)
      (level_lt (ord r) i h)
      (level_lt (ord r) i h)
      refl
      (above refl m, x)
