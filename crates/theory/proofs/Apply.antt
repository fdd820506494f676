-- The rules that store calls make of others, row by row: under a flag that is fixed, where an argument is constant, and the flags that they ignore.
-- Assumes nothing.
use mathlib.Core.Path.{◌≡◌, sym, ◌∙◌}
use mathlib.Core.Bool.{cond}
use mathlib.Core.List.{List}
use Prim.Native.Nat.{ℕ, ◌^◌, ◌<◌}
use native.Mathlib.Omega.{arith}
use lib.Dec.{eqb}
use lib.ListN.{length, get_or}
use Rattle.rule.specs.Bits.{set_bit}
use Rattle.rule.specs.Table.{tabled, cofactor}
use Rattle.rule.specs.Walk.{walk, table_of}
use Rattle.rule.specs.Results.{constant_table, digit, join_table, choose_table}
use Rattle.theory.proofs.Bits.{set_bit_lt}
use Rattle.theory.proofs.Tests.{cond_same}
use Rattle.theory.proofs.Cofactor.{length-cofactor, cofactor_row, depends-false, not-depends, cofactor_keeps}
use Rattle.theory.proofs.Nodes.{Ignores}
use Rattle.theory.proofs.Walks.{walk_end, length-tabled, tabled_row, rows_eq}

-- a table that is made row by row is the one that has those rows
pub tabled_is : (n : ℕ) (f : ℕ → ℕ) (t : List ℕ) → length t ≡ 2 ^ n → ((r : ℕ) → r < 2 ^ n → f r ≡ get_or t r 0) → tabled n f ≡ t
tabled_is n f t e g = rows_eq n (tabled n f) t (length-tabled n f) e (λ r h. tabled_row n f r h ∙ g r h)

-- ---- an operation on the rows of three tables

abbrev combined : ℕ → (ℕ → ℕ → ℕ → ℕ) → List ℕ → List ℕ → List ℕ → List ℕ
combined n op f g h = tabled n (λ r. op (get_or f r 0) (get_or g r 0) (get_or h r 0))

module _ (n : ℕ) (op : ℕ → ℕ → ℕ → ℕ) (f g h : List ℕ) (f-fits : length f ≡ 2 ^ n) (g-fits : length g ≡ 2 ^ n) (h_fits : length h ≡ 2 ^ n) where
  combined_cofactor : (v b : ℕ) → v < n → b < 2 → cofactor v b (combined n op f g h) ≡ combined n op (cofactor v b f) (cofactor v b g) (cofactor v b h)
  combined_cofactor v b v<n b<2 =
      let fits = length-tabled n (λ r. op (get_or f r 0) (get_or g r 0) (get_or h r 0)) in
      sym
      (tabled_is n (λ r. op (get_or (cofactor v b f) r 0) (get_or (cofactor v b g) r 0) (get_or (cofactor v b h) r 0)) (cofactor v b (combined n op f g h))
      (length-cofactor v b (combined n op f g h) ∙ fits)
      (λ r k.
      rw (cofactor_row v b f r (omega arith), cofactor_row v b g r (omega arith), cofactor_row v b h r (omega arith))
      (sym
      (cofactor_row v b (combined n op f g h) r (omega arith)
      ∙ tabled_row n (λ r. op (get_or f r 0) (get_or g r 0) (get_or h r 0)) (set_bit r v b) (set_bit_lt n r v b k v<n b<2)))))

  combined_ignores : (o : List ℕ) {l : ℕ} → Ignores n o l f → Ignores n o l g → Ignores n o l h → Ignores n o l (combined n op f g h)
  combined_ignores o i j k v v<n q =
      not-depends v (combined n op f g h)
      (combined_cofactor v 0 v<n (omega arith)
      ∙ rw (depends-false v f (i v v<n q), depends-false v g (j v v<n q), depends-false v h (k v v<n q)) (sym (combined_cofactor v 1 v<n (omega arith))))

-- ---- a flag that is fixed

pub join_cofactor : (n code : ℕ) (f g : List ℕ) → length f ≡ 2 ^ n → length g ≡ 2 ^ n → (v b : ℕ) → v < n → b < 2
    → cofactor v b (join_table n code f g) ≡ join_table n code (cofactor v b f) (cofactor v b g)
join_cofactor n code f g a b = combined_cofactor n (λ x y z. digit code x y) f g g a b b

pub choose_cofactor : (n : ℕ) (f g h : List ℕ) → length f ≡ 2 ^ n → length g ≡ 2 ^ n → length h ≡ 2 ^ n → (v b : ℕ) → v < n → b < 2
    → cofactor v b (choose_table n f g h) ≡ choose_table n (cofactor v b f) (cofactor v b g) (cofactor v b h)
choose_cofactor n f g h = combined_cofactor n (λ x y z. cond (eqb x 1) y z) f g h

-- ---- constant arguments, and equal ones

-- the rule of an end node
pub end_table : (n : ℕ) (c : List ℕ) (m : ℕ) → m < 2 → table_of n c m ≡ constant_table n m
end_table n c m h = tabled_is n (walk c m) (constant_table n m) (length-tabled n _) (λ r l. walk_end c m r h ∙ sym (tabled_row n (λ r. m) r l))

-- a node whose walk answers, in each row, as the operator does for those of two others
pub join_node : (n code : ℕ) (c : List ℕ) (f g m : ℕ) → ((r : ℕ) → walk c m r ≡ digit code (walk c f r) (walk c g r))
    → table_of n c m ≡ join_table n code (table_of n c f) (table_of n c g)
join_node n code c f g m e =
    sym
    (tabled_is n _ (table_of n c m) (length-tabled n _)
    (λ r l. rw (tabled_row n (walk c f) r l, tabled_row n (walk c g) r l, tabled_row n (walk c m) r l) (sym (e r))))

pub choose_yes : (n : ℕ) (g h : List ℕ) → length g ≡ 2 ^ n → choose_table n (constant_table n 1) g h ≡ g
choose_yes n g h e = tabled_is n _ g e (λ r l. rw (tabled_row n (λ r. 1) r l))

pub choose_no : (n : ℕ) (g h : List ℕ) → length h ≡ 2 ^ n → choose_table n (constant_table n 0) g h ≡ h
choose_no n g h e = tabled_is n _ h e (λ r l. rw (tabled_row n (λ r. 0) r l))

pub choose_same : (n : ℕ) (f g : List ℕ) → length g ≡ 2 ^ n → choose_table n f g g ≡ g
choose_same n f g e = tabled_is n _ g e (λ r l. cond_same (eqb (get_or f r 0) 1) (get_or g r 0))

-- ---- the flags that are ignored

pub join_ignores : (n code : ℕ) (o f g : List ℕ) {l : ℕ} → length f ≡ 2 ^ n → length g ≡ 2 ^ n → Ignores n o l f → Ignores n o l g
    → Ignores n o l (join_table n code f g)
join_ignores n code o f g a b i j = combined_ignores n (λ x y z. digit code x y) f g g a b b o i j j

pub choose_ignores : (n : ℕ) (o f g h : List ℕ) {l : ℕ} → length f ≡ 2 ^ n → length g ≡ 2 ^ n → length h ≡ 2 ^ n → Ignores n o l f → Ignores n o l g
    → Ignores n o l h → Ignores n o l (choose_table n f g h)
choose_ignores n o f g h a b c = combined_ignores n (λ x y z. cond (eqb x 1) y z) f g h a b c o

pub fix_ignores : (n : ℕ) (o t : List ℕ) {l : ℕ} → length t ≡ 2 ^ n → (i b : ℕ) → i < n → b < 2 → Ignores n o l t → Ignores n o l (cofactor i b t)
fix_ignores n o t fit i b i<n b<2 f u u<n h = cofactor_keeps n t fit u i b u<n i<n b<2 (f u u<n h)
