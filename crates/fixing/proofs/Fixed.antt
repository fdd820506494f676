-- One step of fixing a flag: a node that asks no flag before it, or the node's branches by its own flag.
-- Assumes nothing.
use mathlib.Core.Path.{◌≡◌, refl, sym, ap, ◌∙◌}
use mathlib.Core.Logic.{◌≢◌}
use mathlib.Core.List.{List}
use Prim.Native.Nat.{ℕ, ◌+◌, ◌≤◌, ◌<◌}
use native.Mathlib.Omega.{arith}
use Rattle.rule.specs.Table.{cofactor}
use Rattle.rule.specs.Order.{flags}
use Rattle.rule.specs.Cells.{room, flag_at, record_of}
use Rattle.rule.specs.Walk.{table_of}
use Rattle.theory.specs.Child.{child}
use Rattle.theory.proofs.Cofactor.{length-cofactor, cofactor_comm}
use Rattle.theory.proofs.Walks.{length_table}
use Rattle.theory.proofs.Levels.{level_lt}
use Rattle.theory.proofs.Apply.{fix_ignores}
use Rattle.levels.specs.declared.level.Levels.{Levels}
use Rattle.unique.specs.declared.node.Grown.{Grown}
use Rattle.unique.specs.Node.{grown}
use Rattle.unique.proofs.Branches.{Split}
use Rattle.apply.specs.Grow.{Ready, From, Comes}
use Rattle.apply.proofs.Down.{lev, lev_of, ord, asks, record_before, node_rows_lem, branch_from, branch_table, child_level, later_from, later_table, there}

-- the node's level, as the code has it, is before the flag's
pub earlier-level : {a b x y : ℕ} → x ≡ a → y ≡ b → y < x → b < a
earlier-level e f h = omega arith

module _ {l : Levels} {c index : List ℕ} {used at m i b : ℕ} (r : Ready l c used index) (x : From l c used at m) (flag : i < l.n) (bit : b < 2) where
  -- ---- no flag before it is asked

  pub fix_here : lev l i ≤ lev_of l c m → {p : ℕ} → p ≡ child c i b m → Comes l (cofactor i b (table_of l.n c m)) at c used (grown used p) c index
  fix_here h {p} e =
      let y = branch_from r x flag h bit e refl in
      there r (record { node = y.node; later = rw e (omega (arith, x.later, child_level r x i b)) }) (branch_table r x flag h bit e)

  -- ---- the node asks a flag before it

  module _ (h : lev_of l c m < lev l i) where
    pub below_level : lev_of l c m < l.n
    below_level = omega (arith, level_lt (ord r) i flag)

    pub is_record : 2 ≤ m
    is_record = record_before r x below_level

    pub fits : record_of m < room c
    fits = omega (arith, is_record, x.node, r.is_sound.fits)

    module _ {v : ℕ} (is : v ≡ flag_at c (record_of m)) where
      own : (v < l.n) × (lev l v ≡ lev_of l c m) × (lev l v < l.n)
      own = asks r x is_record is

      pub from : at ≤ lev l v
      from = omega (arith, x.later, own.1)

      other : i ≢ v
      other e = omega (arith, own.1, ap (lev l) e)

      pub fix_split : Split l.n l.order.places (lev l v) v (cofactor i b (table_of l.n c m))
      fix_split =
          record {
            is_order = ord r;
            rows = length-cofactor i b (table_of l.n c m) ∙ length_table l.n c m;
            ignores = fix_ignores l.n (flags l.n l.order.places) (table_of l.n c m) (length_table l.n c m) i b flag bit
                (node_rows_lem r x (omega (arith, own.1)));
            flag = own.0;
            place = refl;
          }

      -- a branch's rule with the flag fixed is the fixed rule's cofactor
      branch_rule : (d : List ℕ) (p a : ℕ) → a < 2 → table_of l.n d p ≡ cofactor v a (table_of l.n c m)
          → cofactor i b (table_of l.n d p) ≡ cofactor v a (cofactor i b (table_of l.n c m))
      branch_rule d p a ha e =
          ap (cofactor i b) e ∙ cofactor_comm l.n (table_of l.n c m) (length_table l.n c m) i v b a flag own.0 bit ha other

      -- the low branch, and the high one in the store as it has grown by then
      module _ {p : ℕ} (e : p ≡ child c v 0 m) where
        pub low_from : {k : ℕ} → k ≡ lev_of l c m → From l c used (k + 1) p
        low_from s = branch_from r x own.0 (omega (arith, own.1)) (omega arith) e (s ∙ sym own.1)

        pub low_rule : cofactor i b (table_of l.n c p) ≡ cofactor v 0 (cofactor i b (table_of l.n c m))
        low_rule = branch_rule c p 0 (omega arith) (branch_table r x own.0 (omega (arith, own.1)) (omega arith) e)

      module _ {t d next : List ℕ} {j : ℕ} {q : Grown} (z : Comes l t j c used q d next) {p : ℕ} (e : p ≡ child c v 1 m) where
        pub high_from : {k : ℕ} → k ≡ lev_of l c m → From l d q.used (k + 1) p
        high_from s = later_from r z x own.0 (omega (arith, own.1)) (omega arith) e (s ∙ sym own.1)

        pub high_rule : cofactor i b (table_of l.n d p) ≡ cofactor v 1 (cofactor i b (table_of l.n c m))
        high_rule = branch_rule d p 1 (omega arith) (later_table r z x own.0 (omega (arith, own.1)) (omega arith) e)

      pub below_next : {k : ℕ} → k ≡ lev_of l c m → lev l v < k + 1
      below_next s = omega (arith, own.1)
