-- `folding::count` meets its contract: the counts are those of the ways passed.
-- Assumes nothing.
use mathlib.Core.Path.{◌≡◌, sym, ap, ◌∙◌}
use mathlib.Core.Bool.{Bool}
use mathlib.Core.List.{List}
use Prim.Native.Nat.{ℕ, ◌+◌, ◌*◌, ◌≤◌}
use native.Mathlib.Omega.{arith}
use lib.ListN.{length}
use lib.Pow.{pow_mono}
use Rattle.ways.specs.Ways.{Foldable}
use Rattle.folding.proofs.Counted.{passing, passing_none, nodes_all, ways_all, way_counted, way_passed, node_counted, halves_passed, later_passed}
use Rattle.folding.proofs.LevelBound.{counted_few}
use Rattle.folding.proofs.count.Goals as goal
use Rattle.folding.proofs.count.Goals.{then-code_at+then-codes-i, then-code_at+else-codes-i, else-code_at}

-- no more nodes than a level can have, and no more ways
few : (s d : List ℕ) (p i x : ℕ) → Foldable s p → length s ≡ length d * 2 → i ≤ length d → (test : ℕ → Bool) → x ≡ passing test i → x ≤ 512
few s d p i x f e h test q = rw q (counted_few f i (omega arith) test)

pub loop-i-init : goal.loop-i-init
loop-i-init c = (omega arith, passing_none _, passing_none _)

pub code_at-requires : goal.code_at-requires
code_at-requires c =
    (omega (arith, c.requires), omega arith)

pub code_at-requires-in-loop-i : goal.code_at-requires-in-loop-i
code_at-requires-in-loop-i c =
    (omega (arith, c.requires), omega arith)

pub overflow_add-ways : goal.overflow_add-ways
overflow_add-ways c = omega (arith, few _ _ _ _ _ c.args.halves.foldable c.requires c.loop-i.invariant.0 _ c.loop-i.invariant.2)

pub overflow_add-nodes : goal.overflow_add-nodes
overflow_add-nodes c = omega (arith, few _ _ _ _ _ c.args.halves.foldable c.requires c.loop-i.invariant.0 _ c.loop-i.invariant.1)

pub overflow_cast-i-end : goal.overflow_cast-i-end
overflow_cast-i-end c = let f = c.args.halves.foldable in omega (arith, c.requires, f.ways, pow_mono {j = 9} f.few)

pub loop-i-preserved : goal.loop-i-preserved
loop-i-preserved c =
    let old = c.loop-i.invariant in
    let low = c.code_at.ensures in
    let high = c.code_at-in-loop-i.ensures in
    elim c.if-code_at.branch [
      | then-code_at+then-codes-i w ↦ (
        omega arith,
        w.nodes-is ∙ ap (λ (k : ℕ). k + 1) old.1 ∙ sym (node_counted _ _ _ _ _ low high _ w.if-codes-i.true w.if-code_at.true),
        w.ways-is ∙ ap (λ (k : ℕ). k + 1) old.2 ∙ sym (way_counted _ _ _ _ _ low high w.if-code_at.true),
      )
      | then-code_at+else-codes-i w ↦ (
        omega arith,
        w.nodes-is ∙ old.1 ∙ sym (later_passed _ _ _ _ w.if-codes-i.false),
        w.ways-is ∙ ap (λ (k : ℕ). k + 1) old.2 ∙ sym (way_counted _ _ _ _ _ low high w.if-code_at.true),
      )
      | else-code_at w ↦ (
        omega arith,
        w.nodes-is ∙ old.1 ∙ sym (halves_passed _ _ _ _ _ low high _ w.if-code_at.false),
        w.ways-is ∙ old.2 ∙ sym (way_passed _ _ _ _ _ low high w.if-code_at.false),
      )
    ]

pub overflow_cast-result : goal.overflow_cast-result
overflow_cast-result c = omega (arith, few _ _ _ _ _ c.args.halves.foldable c.requires c.loop-i.invariant.0 _ c.loop-i.invariant.1)

pub returns : goal.returns
returns c =
    let e : c.loop-i.i ≡ length c.args.codes.now = omega arith in
    record {
      nodes_are = c.loop-i.invariant.1 ∙ ap (passing _) e ∙ nodes_all _ _ _;
      ways_are = c.loop-i.invariant.2 ∙ ap (passing _) e ∙ ways_all _ _ c.args.codes.now c.requires;
    }
