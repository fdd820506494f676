-- One step of a recursion that finds or adds the node of a rule: from its two branches, whose rules are the cofactors by a flag, to the rule's node. The branches'
-- nodes are nodes of the rule, and where the branches differ it is one itself. The recursions of build, join, choose and fix share the step.
-- Assumes nothing.
use mathlib.Core.Path.{◌≡◌, refl, sym, subst, subst₂, ◌∙◌}
use mathlib.Core.Bool.{Bool, true, false}
use mathlib.Core.List.{List}
use Prim.Native.Nat.{ℕ, ◌^◌, ◌<◌}
use native.Mathlib.Omega.{arith}
use lib.ListN.{length}
use Rattle.rule.specs.Table.{cofactor, depends}
use Rattle.rule.specs.Level.{nodes_of}
use Rattle.rule.specs.Order.{flags, level}
use Rattle.rule.specs.Walk.{table_of}
use Rattle.theory.proofs.Member.{In}
use Rattle.theory.proofs.Perm.{Within}
use Rattle.theory.proofs.Cofactor.{depends-false}
use Rattle.theory.proofs.Sets.{Order}
use Rattle.theory.proofs.Nodes.{Ignores, nodes_cofactor, node_own}
use Rattle.theory.specs.Growth.{Grows}
use Rattle.theory.proofs.Canonical.{mix, mix_cofactors, canonical}
use Rattle.theory.proofs.Growth.{grows_more, grows_within, older, older_level}
use Rattle.unique.specs.declared.node.Grown.{Grown}
use Rattle.std.specs.Prelude.{Option, Some, None}
use Rattle.unique.specs.Node.{found_reply, MakesNode, MakesAbove, above, none}
use Rattle.unique.specs.Search.{Named, Lacks, FoundAs, Grew}
use Rattle.unique.proofs.Search.{Branch, made}

-- ---- what a search left

module _ {n used l : ℕ} {order t c d : List ℕ} {r : Grown} where
  -- the node that was found
  pub named : {goal : List (List ℕ)} {m : ℕ} → r.found ≡ Some m → Grew n order goal l t c used r d → Named n order l t d r.used m
  named {goal} e x = subst (λ (f : Option ℕ). FoundAs f n order goal l t d r.used) e x.is

  -- or what is lacking
  pub lacks : {goal : List (List ℕ)} → r.found ≡ None → Grew n order goal l t c used r d → Lacks n goal d r.used
  lacks {goal} e x = subst (λ (f : Option ℕ). FoundAs f n order goal l t d r.used) e x.is

  -- and is then lacking for any rule with that goal
  no_room : {goal : List (List ℕ)} → r.found ≡ None → Grew n order goal l t c used r d → {k : ℕ} {u : List ℕ} → Grew n order goal k u c used r d
  no_room {goal} e x {k} {u} = record { grows = x.grows; is = subst (λ (f : Option ℕ). FoundAs f n order goal k u d r.used) (sym e) (lacks e x) }

  -- a larger goal
  pub grew_within : {goal goal' : List (List ℕ)} → Within goal goal' → Grew n order goal l t c used r d → Grew n order goal' l t c used r d
  grew_within {goal} {goal'} w x = record { grows = grows_within w x.grows; is = go r.found x.is }
    where
      go : (f : Option ℕ) → FoundAs f n order goal l t d r.used → FoundAs f n order goal' l t d r.used
      go (Some m) y = y
      go None y = record { full = y.full; missing = y.missing; called = w _ y.called; absent = y.absent }

  grew_more : {goal : List (List ℕ)} {more : ℕ} {e : List ℕ} → Grows n order goal e more c used → Grew n order goal l t c used r d → Grew n order goal l t e more r d
  grew_more w x = record { grows = grows_more w x.grows; is = x.is }

-- ---- the step

-- a rule that ignores what the order asks before level `at`, where it asks v
pub record Split (n : ℕ) (order : List ℕ) (at v : ℕ) (t : List ℕ) : Type 0 where
  pub is_order : Order n (flags n order)
  pub rows : length t ≡ 2 ^ n
  pub ignores : Ignores n (flags n order) at t
  pub flag : v < n
  pub place : level (flags n order) v ≡ at

module _ {n at v : ℕ} {order t : List ℕ} (s : Split n order at v t) where
  branch_within : (b : ℕ) {u : List ℕ} → b < 2 → u ≡ cofactor v b t → Within (nodes_of (flags n order) u) (nodes_of (flags n order) t)
  branch_within b h e = rw e (nodes_cofactor s.is_order t s.rows s.ignores v s.flag s.place b h)

  -- no room in the low branch is no room for the rule
  pub no_room_low : {used l : ℕ} {u c d : List ℕ} {p : Grown} → u ≡ cofactor v 0 t → p.found ≡ None → Grew n order (nodes_of (flags n order) u) l u c used p d
      → Grew n order (nodes_of (flags n order) t) at t c used p d
  no_room_low e f a = no_room f (grew_within (branch_within 0 (omega arith) e) a)

  module _ {used k l : ℕ} {u w c d e : List ℕ} {p q : Grown} (low_is : u ≡ cofactor v 0 t) (high_is : w ≡ cofactor v 1 t)
      (a : Grew n order (nodes_of (flags n order) u) k u c used p d) (b : Grew n order (nodes_of (flags n order) w) l w d p.used q e) where
    grown_low : Grows n order (nodes_of (flags n order) t) c used d p.used
    grown_low = grows_within (branch_within 0 (omega arith) low_is) a.grows

    -- and so is no room in the high one
    no_room_high : q.found ≡ None → Grew n order (nodes_of (flags n order) t) at t c used q e
    no_room_high f = no_room f (grew_more grown_low (grew_within (branch_within 1 (omega arith) high_is) b))

    module _ {low high : ℕ} (low_later : at < k) (high_later : at < l) (at_low : p.found ≡ Some low) (at_high : q.found ≡ Some high) where
      low_named : Named n order k u d p.used low
      low_named = named at_low a

      high_named : Named n order l w e q.used high
      high_named = named at_high b

      low_table : table_of n e low ≡ cofactor v 0 t
      low_table = older a.grows.is_sound b.grows low low_named.node ∙ low_named.table ∙ low_is

      high_table : table_of n e high ≡ cofactor v 1 t
      high_table = high_named.table ∙ high_is

      mixes : mix v (table_of n e low) (table_of n e high) ≡ t
      mixes = rw (low_table, high_table) (mix_cofactors n v t s.rows)

      branches : Branch n order e q.used v low high
      branches =
          record {
            flag = s.flag;
            low_old = omega (arith, low_named.node, b.grows.grown);
            high_old = high_named.node;
            low_later = omega (arith, s.place, low_named.later, older_level b.grows low low_named.node);
            high_later = omega (arith, s.place, high_named.later);
          }

      calls : (low ≡ high → ⊥) → In (mix v (table_of n e low) (table_of n e high)) (nodes_of (flags n order) t)
      calls differ = rw mixes (node_own s.is_order t s.rows s.ignores v s.flag s.place (go (depends v t) refl))
        where
          go : (x : Bool) → depends v t ≡ x → x ≡ true
          go true h = refl
          go false h =
              absurd (differ (canonical b.grows.is_sound s.is_order low high branches.low_old branches.high_old
              (low_table ∙ depends-false v t h ∙ sym high_table)))

      -- where both were found, the node that has them for children
      both_found : {r : Grown} {f : List ℕ} → MakesNode e q.used v low high r.used (found_reply r.found) f → Grew n order (nodes_of (flags n order) t) at t c used r f
      both_found {r} {f} m =
          grew_more grown_low
          (grew_more (grows_within (branch_within 1 (omega arith) high_is) b.grows)
          (subst₂ (λ (l : ℕ) (x : List ℕ). Grew n order (nodes_of (flags n order) t) l x e q.used r f) s.place mixes
          (made b.grows.is_sound s.is_order branches (nodes_of (flags n order) t) calls m)))

    -- what comes of the low branch's node and of what was found for the high one
    pub both_branches : {low : ℕ} → at < k → at < l → p.found ≡ Some low → {r : Grown} {f : List ℕ} → MakesAbove e v low q r f
        → Grew n order (nodes_of (flags n order) t) at t c used r f
    both_branches x y at_low (above at_high m) = both_found x y at_low at_high m
    both_branches x y at_low (none h) = no_room_high h
