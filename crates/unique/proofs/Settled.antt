-- What a whole search for a rule's node comes to, in the words of the store's calls: the node and the records that the rule needs and no others, or that these are
-- more than are free, and then the cells as they were once the added records are cleared.
-- Assumes nothing.
use mathlib.Core.Path.{◌≡◌, sym, subst, ◌∙◌}
use mathlib.Core.Bool.{true}
use mathlib.Core.List.{List}
use Prim.Native.Nat.{ℕ, ◌+◌, ◌*◌, ◌≤◌, ◌<◌}
use native.Mathlib.Omega.{arith}
use lib.ListN.{length, take}
use lib.Seq.{ext_get_or, length-take-le, get_or-take}
use Rattle.rule.specs.Level.{nodes_of}
use Rattle.rule.specs.Order.{flags}
use Rattle.rule.specs.Cells.{width}
use Rattle.rule.specs.Sound.{sound}
use Rattle.rule.specs.Results.{needed, free, made_node}
use Rattle.rule.specs.Calls.{State, Holds}
use Rattle.cells.specs.Record.{clear_from}
use Rattle.cells.proofs.Cleared.{cleared_all}
use Rattle.theory.proofs.Tests.{in_among}
use Rattle.theory.proofs.Sets.{Order}
use Rattle.theory.specs.Shape.{Shaped}
use Rattle.theory.proofs.Sound.{shape_sound}
use Rattle.theory.proofs.Growth.{older}
use Rattle.theory.proofs.Needed.{added_is, needed_least, needed_most, needed_more, made_is}
use Rattle.unique.specs.declared.node.Grown.{Grown}
use Rattle.std.specs.Prelude.{Some, None}
use Rattle.unique.specs.Search.{Grew}
use Rattle.unique.proofs.Branches.{named, lacks}

-- the store s, once its cells were c, holds rule t at node m of d and has so many records used
pub record Settled (s : State) (c t : List ℕ) (used m : ℕ) (d : List ℕ) : Type 0 where
  pub count : used ≡ s.used + needed s.n s.places c s.used t
  pub node_is : m ≡ made_node s.n s.places c s.used t
  pub fits : needed s.n s.places c s.used t ≤ free c s.used
  pub holds : Holds s c t d

-- there is no room for it
pub record Unsettled (s : State) (c t d : List ℕ) : Type 0 where
  pub exceeds : free c s.used < needed s.n s.places c s.used t
  pub cleared : clear_from d s.used ≡ c

module _ (s : State) {c t d : List ℕ} {r : Grown} (x : Shaped s.n s.places c s.used) (o : Order s.n (flags s.n s.places))
    (g : Grew s.n s.places (nodes_of (flags s.n s.places) t) 0 t c s.used r d) where
  old_kept : take (s.used * width) d ≡ take (s.used * width) c
  old_kept =
      let k = s.used * width in
      let a = length-take-le k d (omega (arith, x.fits, g.grows.lent)) in
      let b = length-take-le k c (omega (arith, x.fits)) in
      ext_get_or 0 (take k d) (take k c) (a ∙ sym b)
      (λ i h. get_or-take k d i 0 (omega arith) ∙ g.grows.old i (omega arith) ∙ sym (get_or-take k c i 0 (omega arith)))

  pub settled : {m : ℕ} → r.found ≡ Some m → Settled s c t r.used m d
  settled {m} e =
      let a = named e g in
      let kept = older x g.grows in
      let is : r.used ≡ s.used + needed s.n s.places c s.used t =
      omega (
        arith,
        needed_least c g.grows.is_sound o g.grows.grown kept t m a.node a.table,
        needed_most c g.grows.is_sound o g.grows.grown kept t g.grows.within,
      ) in
      let at-node = made_is c g.grows.is_sound o g.grows.grown kept t g.grows.within m a.node a.table in
      record {
        count = is;
        node_is = at-node;
        fits = omega (arith, g.grows.is_sound.fits, g.grows.lent);
        holds = record {
          lent = g.grows.lent;
          is_sound = subst (λ (k : ℕ). sound s.n s.places d k ≡ true) is (shape_sound s.n s.places d r.used g.grows.is_sound);
          old = old_kept;
          kept = kept;
          added = λ k h l. in_among (added_is c g.grows.is_sound o g.grows.grown kept t g.grows.within k h (omega arith));
          rule = rw at-node at a.table;
        };
      }

  pub unsettled : r.found ≡ None → Unsettled s c t d
  unsettled e =
      let a = lacks e g in
      record {
        exceeds = omega (
          arith,
          needed_more c g.grows.is_sound o g.grows.grown (older x g.grows) t g.grows.within a.missing a.called a.absent,
          a.full,
          g.grows.lent,
        );
        cleared = sym
            (cleared_all d s.used (length d) c
            (record {
              from_a = omega (arith, x.fits, g.grows.lent);
              within = omega arith;
              lent = sym g.grows.lent;
              before = λ i h. sym (g.grows.old i h);
              zeros = λ i h _. x.clear i h;
            })
            (omega (arith, g.grows.lent)));
      }
