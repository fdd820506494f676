-- Rows of the refusal table that apply or pass, and the reply that follows.
-- Assumes nothing.
use mathlib.Core.Path.{◌≡◌, refl, sym, ap, ◌∙◌}
use mathlib.Core.Bool.{Bool, true, false, not, ◌&&◌, true≢false}
use mathlib.Core.List.{List, [], ◌∷◌, ◌++◌, map}
use Prim.Native.Nat.{ℕ, zero, suc, ◌≤◌}
use native.Mathlib.Omega.{arith}
use borrow.Author.Tests.{ltb-true, leb-true, eq-eqb}
use lib.Dec.{eqb, leb, ltb}
use Rattle.rule.specs.Refusals.{Row, first_else, refusal}
use Rattle.rule.specs.Answers.{refusal_number}
use Rattle.rule.specs.declared.refusal.Refusal.{Refusal}
use Rattle.rule.specs.declared.refusal.Refusal.TheVariants as the-refusal
use Rattle.rule.specs.Reply.{Reply, accepted, refused, reply, leaves}
use Rattle.theory.proofs.Tests.{and_split}

-- a refusal has a number of the table's
pub positive : (k : Refusal) → refusal_number k ≡ 0 → ⊥
positive the-refusal.FlagCount e = absurd (omega arith)
positive the-refusal.TableLength e = absurd (omega arith)
positive the-refusal.TableByte e = absurd (omega arith)
positive the-refusal.OrderPlaces e = absurd (omega arith)
positive the-refusal.CellsLength e = absurd (omega arith)
positive the-refusal.Records e = absurd (omega arith)
positive the-refusal.NodeNumber e = absurd (omega arith)
positive the-refusal.WorkspaceLength e = absurd (omega arith)
positive the-refusal.Argument e = absurd (omega arith)
positive the-refusal.NoRoom e = absurd (omega arith)
positive the-refusal.FileEnd e = absurd (omega arith)
positive the-refusal.FileMap e = absurd (omega arith)
positive the-refusal.FileLabel e = absurd (omega arith)
positive the-refusal.ForbiddenRow e = absurd (omega arith)
positive the-refusal.NoSuchRow e = absurd (omega arith)
positive the-refusal.LogLength e = absurd (omega arith)

-- the number of each row is one of the table's, not 0
abbrev pub numbered : List Row → Bool
numbered [] = true
numbered (row ∷ rows) = ltb 0 row.1 && numbered rows

-- one row before others
pub row_passed : (b : Bool) (k : ℕ) (rows : List Row) → refusal ((b, suc k) ∷ rows) ≡ 0 → (b ≡ false) × (refusal rows ≡ 0)
row_passed true k rows e = absurd (omega arith)
row_passed false k rows e = (refl, e)

-- no row applies
abbrev pub Passed : List Row → Type 0
Passed [] = Unit {0}
Passed (row ∷ rows) = (row.0 ≡ false) × Passed rows

pub passed : (rows : List Row) → numbered rows ≡ true → refusal rows ≡ 0 → Passed rows
passed [] h e = tt
passed ((b, zero) ∷ rows) h e = let z : ◌≡◌ {A = ℕ} 0 1 = cc in absurd (omega arith)
passed ((b, suc k) ∷ rows) h e = let (p, q) = row_passed b k rows e in (p, passed rows (and_split (ltb 0 (suc k)) (numbered rows) h).1 q)

pub none_applies : (rows : List Row) → Passed rows → refusal rows ≡ 0
none_applies [] p = refl
none_applies (row ∷ rows) (e, p) = rw e (none_applies rows p)

-- a number that some rows give is given with more rows after them
pub refused-more : (rows more : List Row) → (refusal rows ≡ 0 → ⊥) → refusal rows ≡ refusal (rows ++ more)
refused-more [] more d = absurd (d refl)
refused-more ((true, k) ∷ rows) more d = refl
refused-more ((false, k) ∷ rows) more d = refused-more rows more d

-- rows that give no number leave it to those after them
pub behind_passed : (rows more : List Row) → Passed rows → refusal (rows ++ more) ≡ refusal more
behind_passed [] more p = refl
behind_passed (row ∷ rows) more (e, p) = rw e (behind_passed rows more p)

pub passed_more : (rows more : List Row) → numbered rows ≡ true → refusal rows ≡ 0 → refusal more ≡ refusal (rows ++ more)
passed_more rows more h e = sym (behind_passed rows more (passed rows h e))

pub split_passed : (rows more : List Row) → numbered rows ≡ true → refusal (rows ++ more) ≡ 0 → (refusal rows ≡ 0) × (refusal more ≡ 0)
split_passed [] more h e = (refl, e)
split_passed ((true, k) ∷ rows) more h e = let p = ltb-true 0 k (and_split (ltb 0 k) (numbered rows) h).0 in absurd (omega arith)
split_passed ((false, k) ∷ rows) more h e = split_passed rows more (and_split (ltb 0 k) (numbered rows) h).1 e

-- rows that give the same number give it behind others too
pub rows_alike : (rows more other : List Row) → refusal more ≡ refusal other → refusal (rows ++ more) ≡ refusal (rows ++ other)
rows_alike [] more other e = e
rows_alike (row ∷ rows) more other e = ap (first_else row.0 row.1) (rows_alike rows more other e)

-- and ahead of others that do
pub both_alike : (a b x y : List Row) → numbered a ≡ true → numbered b ≡ true → refusal a ≡ refusal b → refusal x ≡ refusal y
    → refusal (a ++ x) ≡ refusal (b ++ y)
both_alike a b x y f g e h = go (refusal a) refl
  where
    go : (k : ℕ) → refusal a ≡ k → refusal (a ++ x) ≡ refusal (b ++ y)
    go zero z = sym (passed_more a x f z) ∙ h ∙ passed_more b y g (sym e ∙ z)
    go (suc k) z =
        let far : refusal a ≡ 0 → ⊥ = λ q. omega (arith, z, q) in
        sym (refused-more a x far) ∙ e ∙ refused-more b y (λ q. far (e ∙ q))

-- the numbers of these rows are at most so much, and so is the one that they give
abbrev pub up_to : ℕ → List Row → Bool
up_to most [] = true
up_to most (row ∷ rows) = leb row.1 most && up_to most rows

pub refusal_le : (most : ℕ) (rows : List Row) → up_to most rows ≡ true → refusal rows ≤ most
refusal_le most [] h = omega arith
refusal_le most ((true, k) ∷ rows) h = leb-true k most (and_split (leb k most) (up_to most rows) h).0
refusal_le most ((false, k) ∷ rows) h = refusal_le most rows (and_split (leb k most) (up_to most rows) h).1

-- no row has this number
abbrev pub others : ℕ → List Row → Bool
others k [] = true
others k (row ∷ rows) = not (eqb row.1 k) && others k rows

-- where a row's number is given that stands behind others, none of which has it, these pass and it applies
pub last_given : (k : ℕ) (rows : List Row) (b : Bool) → others (suc k) rows ≡ true → refusal (rows ++ ((b, suc k) ∷ [])) ≡ suc k → Passed rows × (b ≡ true)
last_given k [] true h e = (tt, refl)
last_given k [] false h e = absurd (omega arith)
last_given k ((true, j) ∷ rows) b h e =
    absurd (true≢false (sym (and_split (not (eqb j (suc k))) (others (suc k) rows) h).0 ∙ ap not (eq-eqb j (suc k) e)))
last_given k ((false, j) ∷ rows) b h e =
    let (p, q) = last_given k rows b (and_split (not (eqb j (suc k))) (others (suc k) rows) h).1 e in ((refl, p), q)

-- the reply under a refusal
pub refused-reply : (k : ℕ) (values : List ℕ) → (k ≡ 0 → ⊥) → refused k (map (λ v. 0) values) ≡ reply k values
refused-reply zero values d = absurd (d refl)
refused-reply (suc k) values d = refl

-- and leaves what was lent
pub refused_kept : {A : Type 0} (k : ℕ) (new old : A) → (k ≡ 0 → ⊥) → old ≡ leaves k new old
refused_kept zero new old d = absurd (d refl)
refused_kept (suc k) new old d = refl

-- a reply tells the number that it came of, and the values
abbrev is_refused : Reply → ℕ
is_refused (accepted l) = 0
is_refused (refused k l) = 1

pub refused_is : (k j : ℕ) (zs values : List ℕ) → refused k zs ≡ reply j values → (k ≡ j) × (j ≡ 0 → ⊥)
refused_is k zero zs values e = let q = ap is_refused e in absurd (omega arith)
refused_is k (suc j) zs values e = (cc, λ q. omega arith)

pub accepted_is : (j : ℕ) (xs values : List ℕ) → accepted xs ≡ reply j values → (j ≡ 0) × (xs ≡ values)
accepted_is zero xs values e = (refl, cc)
accepted_is (suc j) xs values e = let q = ap is_refused e in absurd (omega arith)
