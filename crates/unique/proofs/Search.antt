-- What the unique table makes is the node of the joined rule, or shows that the store lacks its record.
-- Assumes nothing.
use mathlib.Core.Path.{◌≡◌, refl, sym, ap, ◌∙◌}
use mathlib.Core.List.{List, [], ◌∷◌}
use Prim.Native.Nat.{ℕ, ◌+◌, ◌≤◌, ◌<◌}
use native.Mathlib.Omega.{arith}
use lib.ListN.{length}
use Rattle.rule.specs.Order.{flags, level}
use Rattle.rule.specs.Walk.{table_of}
use Rattle.rule.specs.Reply.{Reply, accepted, refused}
use Rattle.cells.proofs.Record.{put_length}
use Rattle.record_index.specs.Find.{None as NoRecord}
use Rattle.theory.proofs.Member.{In, cast}
use Rattle.theory.proofs.Sets.{Order}
use Rattle.theory.specs.Growth.{Grows}
use Rattle.theory.specs.Level.{level_of}
use Rattle.theory.specs.Shape.{Shaped}
use Rattle.theory.proofs.Walks.{smaller, table_kept, length_table}
use Rattle.theory.proofs.Canonical.{level_record, mix, mix-same, table_mix, canonical}
use Rattle.theory.proofs.Growth.{grows_none}
use Rattle.unique.specs.declared.node.Grown.{Grown}
use Rattle.std.specs.Prelude.{Option, Some, None}
use Rattle.unique.specs.Node.{found_reply, MakesNode, child, old, new, full}
use Rattle.unique.specs.Search.{Named, Grew}
use Rattle.cells.proofs.Added.{Added, added_put, added_longer}
use Rattle.unique.proofs.Extend.{Allowed, extended}

-- ---- an answer by its reply

found_at : (x : Option ℕ) (m : ℕ) → accepted (m ∷ []) ≡ found_reply x → x ≡ Some m
found_at (Some k) m e = cc
found_at None m e = cc

found_full : (x : Option ℕ) → refused 10 (0 ∷ []) ≡ found_reply x → x ≡ None
found_full (Some k) e = cc
found_full None e = refl

-- ---- the node that is made

-- a flag and two older nodes at later levels
pub record Branch (n : ℕ) (order c : List ℕ) (used v low high : ℕ) : Type 0 where
  pub flag : v < n
  pub low_old : low ≤ used + 1
  pub high_old : high ≤ used + 1
  pub low_later : level (flags n order) v < level_of n order c low
  pub high_later : level (flags n order) v < level_of n order c high

allowed : {n used v low high : ℕ} {order c : List ℕ} → Branch n order c used v low high → (low ≡ high → ⊥) → NoRecord c used v low high
    → Allowed n order c used v low high
allowed b d f =
    record { flag = b.flag; differ = d; low_old = b.low_old; high_old = b.high_old; low_later = b.low_later; high_later = b.high_later; new = f }

module _ {n used v low high : ℕ} {order c : List ℕ} (s : Shaped n order c used) (o : Order n (flags n order)) (b : Branch n order c used v low high)
    -- where the children differ the goal calls for the joined rule
    (goal : List (List ℕ)) (call : (low ≡ high → ⊥) → In (mix v (table_of n c low) (table_of n c high)) goal) where
  module _ {d : List ℕ} (differ : low ≡ high → ⊥) (none : NoRecord c used v low high) (x : Added c used v low high d) where
    more : Shaped n order d (used + 1)
    more = extended s (allowed b differ none) x

    kept : (m : ℕ) → m ≤ used + 1 → table_of n d m ≡ table_of n c m
    kept m h = sym (table_kept c d used (λ i l. sym (x.agree i l)) (smaller s) n m h)

    -- the added record's rule
    added_table : table_of n d (used + 2) ≡ mix v (table_of n c low) (table_of n c high)
    added_table =
        table_mix more o used (omega arith)
        ∙ rw (x.flag_is, x.low_is, x.high_is, kept low b.low_old, kept high b.high_old)

    -- no older record has it
    added_new : (k : ℕ) → k < used → table_of n c (k + 2) ≡ mix v (table_of n c low) (table_of n c high) → ⊥
    added_new k h e =
        let q : k + 2 ≡ used + 2 = canonical more o (k + 2) (used + 2) (omega arith) (omega arith) (kept (k + 2) (omega arith) ∙ e ∙ sym added_table) in
        omega arith

    added_grows : length d ≡ length c → Grows n order goal c used d (used + 1)
    added_grows l =
        record {
          lent = l;
          is_sound = more;
          grown = omega arith;
          old = x.agree;
          within = λ k h g. let e : k ≡ used = omega arith in cast (ap (λ (j : ℕ). table_of n d (j + 2)) e ∙ added_table) (call differ);
        }

    added_named : Named n order (level (flags n order) v) (mix v (table_of n c low) (table_of n c high)) d (used + 1) (used + 2)
    added_named =
        record { node = omega arith; table = added_table; later = omega (arith, level_record n order d used, ap (level (flags n order)) x.flag_is) }

  -- each case of the answer
  answered : (x : Option ℕ) {more : ℕ} {p : Reply} {d : List ℕ} → p ≡ found_reply x → MakesNode c used v low high more p d
      → Grew n order goal (level (flags n order) v) (mix v (table_of n c low) (table_of n c high)) c used (record { used = more; found = x }) d
  answered x q (child e) =
      rw (found_at x low q)
      (record {
        grows = grows_none goal s;
        is = record {
          node = b.low_old;
          table = sym (ap (λ (m : ℕ). mix v (table_of n c low) (table_of n c m)) (sym e) ∙ mix-same n v (table_of n c low) (length_table n c low));
          later = omega (arith, b.low_later);
        };
      })
  answered x q (old _ k h is) =
      rw (found_at x (k + 2) q)
      (record {
        grows = grows_none goal s;
        is = record {
          node = omega arith;
          table = table_mix s o k h ∙ rw (is.flag_is, is.low_is, is.high_is);
          later = omega (arith, level_record n order c k, ap (level (flags n order)) is.flag_is);
        };
      })
  answered x q (new differ none space) =
      let a = added_put v low high s.fits s.clear space in
      rw (found_at x (used + 2) q)
      (record { grows = added_grows differ none a (put_length c used v low high space); is = added_named differ none a })
  answered x q (full differ none e) =
      rw (found_full x q)
      (record {
        grows = grows_none goal s;
        is = record { full = e; missing = _; called = call differ; absent = added_new differ none (added_longer v low high s.fits s.clear) };
      })

  pub made : {r : Grown} {d : List ℕ} → MakesNode c used v low high r.used (found_reply r.found) d
      → Grew n order goal (level (flags n order) v) (mix v (table_of n c low) (table_of n c high)) c used r d
  made {r} m = answered r.found refl m
