-- Codes that are folded are codes again, their count is that of the nodes that ask the flag (document 001, chapter 3), and the ways whose halves differ are
-- those of the rows whose walk does.
-- Assumes nothing.
use mathlib.Core.Path.{◌≡◌, sym, ap, ap₂, subst, ◌∙◌}
use mathlib.Core.Logic.{◌↔◌}
use mathlib.Core.Bool.{true, not}
use mathlib.Core.List.{List, ◌++◌, map}
use Prim.Native.Nat.{ℕ, suc, ◌+◌, ◌-◌, ◌*◌, ◌/◌, ◌^◌, ◌≤◌, ◌<◌}
use native.Mathlib.Omega.{arith}
use borrow.Author.Tests.{eqb-true, eqb-false, not-true, eq-eqb, ne_eqb}
use lib.Count.{ones_in}
use lib.Dec.{eqb}
use lib.ListN.{length, get_or, length-map}
use lib.Pow.{pow_pos}
use lib.Seq.{ext_get_or}
use Rattle.rule.specs.Bits.{bit, set_bit, below}
use Rattle.rule.specs.Tests.{keep}
use Rattle.rule.specs.Table.{cofactor, depends, restrict}
use Rattle.rule.specs.Level.{level_nodes, rows_asking}
use Rattle.rule.specs.Sets.{set_size, stretch}
use Rattle.theory.proofs.Member.{In, in_map, map-in, cast}
use Rattle.theory.proofs.Tests.{same_bool, and_split, and_join, keep_same, keep_in, in_keep}
use Rattle.theory.proofs.Bits.{below_in, in_below}
use Rattle.theory.proofs.Perm.{Once, Within, once_keep, once_from, once_map, once_set}
use Rattle.theory.proofs.Cofactor.{depends-true, differ_depends}
use Rattle.theory.proofs.Friedman.{level_in, in_level, level_once}
use Rattle.theory.specs.Sets.{having}
use Rattle.theory.proofs.Sets.{having_exactly}
use Rattle.theory.proofs.Packed.{node_cost, row_cost}
use Rattle.theory.proofs.Restrict.{restrict_all}
use Rattle.theory.proofs.Canonical.{mix, mix_cofactors}
use Rattle.ways.specs.Ways.{insert_bit, place_of, Foldable}
use Rattle.ways.proofs.Insert.{insert_lt}
use Rattle.folding.specs.Fold.{Folds, differs, is_node, fold_count, differing}
use Rattle.folding.specs.Codes.{fixed_by, way_rule, Codes, Firsts}
use Rattle.folding.proofs.Fixed.{length_fixed, fixed_insert, fixed_in, in_fixed, fixed_row}
use Rattle.folding.proofs.Outside.{above, outside_none, outside_all, outside_size, outside_with, outside_without, outside_place, rest_size, place_le}
use Rattle.folding.proofs.RowsAsked.{rows_ways}

module _ (n : ℕ) (t : List ℕ) (fit : length t ≡ 2 ^ n) where
  length_way : (set i : ℕ) → length (way_rule n t set i) ≡ 2 ^ n
  unfolding way_rule
  length_way set i = length_fixed (having 0 n set) i t ∙ fit

  -- ---- the table itself

  -- with every flag fixed each row is the one row
  way_row : (i r : ℕ) → i < 2 ^ n → r < 2 ^ n → get_or (way_rule n t 0 i) r 0 ≡ get_or t i 0
  unfolding way_rule
  way_row i r h k =
      ap (λ (vs : List ℕ). get_or (fixed_by vs i t) r 0) (outside_none n)
      ∙ ap (λ (u : List ℕ). get_or u r 0) (fixed_row 0 n i i t (λ m. let e : 0 + m ≡ m = omega arith in ap (bit i) e))
      ∙ restrict_all n (below n) i t fit (λ v m. below_in m) (λ v l. in_below l) h r k

  -- the table is the codes of the empty set
  pub codes_table : Codes n t 0 t
  unfolding ones_in
  codes_table =
      record {
        ways = let e : n ≡ n - 0 = omega arith in fit ∙ ap (λ (k : ℕ). 2 ^ k) e;
        same = λ i j h k. (
          λ e.
              ext_get_or 0 (way_rule n t 0 i) (way_rule n t 0 j) (length_way 0 i ∙ sym (length_way 0 j))
              (λ r l.
              let q : r < 2 ^ n = omega (arith, length_way 0 i) in
              way_row i r (omega arith) q ∙ e ∙ sym (way_row j r (omega arith) q)),
          λ e.
              sym (way_row i 0 (omega arith) (pow_pos n)) ∙ ap (λ (u : List ℕ). get_or u 0 0) e ∙ way_row j 0 (omega arith) (pow_pos n),
        );
      }

  -- ---- one flag of a set

  module _ (set v : ℕ) (few : n ≤ 10) (small : set < 2 ^ n) (h : v < n) (has : bit set v ≡ 1) where
    -- with v fixed too, a way's rule is the cofactor
    way_half : (i b : ℕ) → b < 2 → way_rule n t (set_bit set v 0) (insert_bit i (place_of set v) b) ≡ cofactor v b (way_rule n t set i)
    unfolding way_rule
    way_half i b b<2 =
        rw (outside_without n set v h has, outside_with n set v h has, ← outside_place set v)
        (fixed_insert n v b h b<2 (having 0 v set) (above n set v) i t fit (λ u m. (lacks u m).0) (λ m. omega (arith, lacks v m)))
      where
        lacks : (u : ℕ) → In u (having 0 v set ++ above n set v) → (u < n) × (bit set u ≡ 0)
        lacks u m = (having_exactly 0 n set).sound u (subst (λ (l : List ℕ). In u l) (sym (outside_with n set v h has)) m)

    module _ {s : List ℕ} (c : Codes n t (set_bit set v 0) s) where
      twice : length s ≡ 2 ^ suc (n - set_size set)
      twice = c.ways ∙ ap (λ (k : ℕ). 2 ^ k) (rest_size n set v few small h has)

      -- so such codes can be folded
      pub codes_foldable : Foldable s (place_of set v)
      codes_foldable =
          record {
            flags = n - set_size set;
            ways = twice;
            place = place_le n set v few small h has;
            few = omega (arith, rest_size n set v few small h has);
          }

      -- two halves have one code exactly where the two cofactors are one
      halves : (i j a b : ℕ) → i < stretch n set → j < stretch n set → a < 2 → b < 2
          → (get_or s (insert_bit i (place_of set v) a) 0 ≡ get_or s (insert_bit j (place_of set v) b) 0)
          ↔ (cofactor v a (way_rule n t set i) ≡ cofactor v b (way_rule n t set j))
      halves i j a b hi hj ha hb =
          rw (← way_half i a ha, ← way_half j b hb)
          (c.same (insert_bit i (place_of set v) a) (insert_bit j (place_of set v) b) (within i a hi ha) (within j b hj hb))
        where
          within : (k x : ℕ) → k < stretch n set → x < 2 → insert_bit k (place_of set v) x < length s
          within k x l m = rw twice (insert_lt (n - set_size set) k (place_of set v) x l (place_le n set v few small h has) m)

      -- folded, they are the codes of the set
      pub codes_fold : {d : List ℕ} → Folds s (place_of set v) d → Codes n t set d
      codes_fold {d} f =
          let lent : length d ≡ stretch n set = omega (arith, f.half, twice) in
          record {
            ways = lent;
            same = λ i j hi hj.
                let low = halves i j 0 0 (omega arith) (omega arith) (omega arith) (omega arith) in
                let high = halves i j 1 1 (omega arith) (omega arith) (omega arith) (omega arith) in (
                  λ e.
                      let k = (f.same i j hi hj).0 e in
                      sym (mix_cofactors n v (way_rule n t set i) (length_way set i))
                      ∙ ap₂ (mix v) (low.0 k.0) (high.0 k.1)
                      ∙ mix_cofactors n v (way_rule n t set j) (length_way set j),
                  λ e. (f.same i j hi hj).1 (low.1 (ap (cofactor v 0) e), high.1 (ap (cofactor v 1) e)),
                );
          }

      -- two halves differ where the way's rule depends on v
      differs_is : (i : ℕ) → i < stretch n set → differs s (place_of set v) i ≡ depends v (way_rule n t set i)
      unfolding differs
      differs_is i l =
          let x = halves i i 0 1 l l (omega arith) (omega arith) in
          same_bool _ _
          (λ e. differ_depends v (way_rule n t set i) (λ y. eqb-false _ _ (not-true _ e) (x.1 y)))
          (λ e. ap not (ne_eqb _ _ (λ y. depends-true v (way_rule n t set i) e (x.0 y))))

      -- each such way is that of 2^k rows, for a set of k flags: together the rows whose walk asks v while the set is still to be asked
      pub rows_are : differing s (place_of set v) * 2 ^ set_size set ≡ row_cost n t set v
      unfolding differing row_cost rows_asking
      rows_are =
          let q = having_exactly 0 n set in
          let size = outside_size n set few small in
          let half : length s / 2 ≡ stretch n set = omega (arith, twice) in
          rw half
          (ap (λ (l : List ℕ). length l * 2 ^ set_size set)
          (keep_same _ (λ (i : ℕ). depends v (way_rule n t set i)) (below (stretch n set)) (λ i m. differs_is i (below_in m)))
          ∙ rw (← size)
          (unfold way_rule in sym (rows_ways n (depends v) (having 0 n set) t (set_size set) (outside_all n set few small) q.once (λ i m. (q.sound i m).0)))
          ∙ ap (λ (k : ℕ). length (keep (λ (r : ℕ). depends v (restrict (having 0 n set) r t)) (below k))) (sym fit))

      -- and whatever flag they were folded by, their count is that of the nodes that ask v
      module _ {d : List ℕ} (e : Codes n t set d) (first : Firsts d) where
        nodes : List ℕ
        nodes = keep (is_node s (place_of set v) d) (below (length d))

        rules : List (List ℕ)
        rules = map (way_rule n t set) nodes

        node_is : (i : ℕ) → In i nodes → (i < length d) × (get_or d i 0 ≡ i) × (depends v (way_rule n t set i) ≡ true)
        unfolding nodes is_node
        node_is i m =
            let (k, p) = keep_in (is_node s (place_of set v) d) (below (length d)) m in
            let l : i < length d = below_in k in
            let (q, r) = and_split (eqb (get_or d i 0) i) _ p in
            (l, eqb-true (get_or d i 0) i q, sym (differs_is i (omega (arith, e.ways))) ∙ r)

        is_node_lem : (i : ℕ) → i < length d → get_or d i 0 ≡ i → depends v (way_rule n t set i) ≡ true → In i nodes
        unfolding nodes is_node
        is_node_lem i l q r =
            in_keep (is_node s (place_of set v) d) (below (length d)) (in_below l)
            (and_join (eq-eqb (get_or d i 0) i q) (differs_is i (omega (arith, e.ways)) ∙ r))

        rules_once : Once rules
        unfolding rules
        rules_once =
            once_map (way_rule n t set) nodes
            (λ i j mi mj q.
            let (l, x, _) = node_is i mi in
            let (k, y, _) = node_is j mj in
            sym x ∙ (e.same i j l k).1 q ∙ y)
            (unfold nodes in once_keep (is_node s (place_of set v) d) (below (length d)) (once_from 0 (length d)))

        rules_in : Within rules (level_nodes (having 0 n set) v t)
        unfolding rules way_rule
        rules_in u m =
            let (i, k, q) = map-in (way_rule n t set) nodes m in
            let (l, x, y) = node_is i k in
            cast (sym q) (in_level (having 0 n set) v t (fixed_in (having 0 n set) i t) y)

        in_rules : Within (level_nodes (having 0 n set) v t) rules
        unfolding rules way_rule
        in_rules u m =
            let (k, y) = level_in (having 0 n set) v t m in
            let (i, l, q) = in_fixed (having 0 n set) t k in
            let g : i < length d = omega (arith, l, e.ways, ap (λ (x : ℕ). 2 ^ x) (outside_size n set few small)) in
            let (f, z) = first i g in
            let r : get_or d i 0 < length d = omega (arith, f) in
            let w : way_rule n t set (get_or d i 0) ≡ u = (e.same (get_or d i 0) i r g).0 z ∙ q in
            cast (sym w) (in_map (way_rule n t set) (is_node_lem (get_or d i 0) r z (ap (depends v) w ∙ y)))

        pub count_is : fold_count s (place_of set v) d ≡ node_cost n t set v
        unfolding fold_count node_cost rules nodes
        count_is =
            sym (length-map nodes (way_rule n t set))
            ∙ once_set rules (level_nodes (having 0 n set) v t) rules_once (level_once (having 0 n set) v t) rules_in in_rules
