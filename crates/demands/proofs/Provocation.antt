-- Which row a provoke hands back, and when it is refused: by the tables of its rule and its pass rule.
-- Assumes nothing.
use mathlib.Core.Path.{◌≡◌, refl, sym, ap, ◌∙◌}
use mathlib.Core.Logic.{◌≢◌}
use mathlib.Core.Bool.{Bool, true, false, not}
use mathlib.Core.List.{List, [], ◌∷◌, ◌++◌}
use mathlib.Core.Option.{some}
use Prim.Native.Nat.{ℕ, ◌+◌, ◌^◌, ◌≤◌, ◌<◌}
use native.Mathlib.Decide.{ℕ_discrete, dec_lt}
use native.Mathlib.Omega.{arith}
use borrow.Author.Tests.{le-ltb, ltb-false, lt-leb, leb-false, ne_eqb, not-false}
use lib.Dec.{leb, ltb}
use lib.ListN.{length, get_or}
use lib.Pow.{pow_mono}
use Rattle.rule.specs.Bits.{bit}
use Rattle.rule.specs.Sets.{flag_set}
use Rattle.rule.specs.Walk.{flags_asked, walk_values, table_of}
use Rattle.rule.specs.Provoke.{ones_fixed, serving, serving_in, Serves, NoneServes}
use Rattle.rule.specs.Refusals.{Row, refusal, flag_count, order_places, cells, records, node, no_such_row, aim_rows, provoke_rows, walk_rows}
use Rattle.rule.specs.Reply.{Reply, accepted, refused, reply, number_of, Accepted}
use Rattle.rule.specs.Calls.{Walks, Provokes}
use Rattle.rule.specs.Demands.{Gives, ProvokedBy, AimFits, NodesFit, Provocation}
use Rattle.theory.proofs.Bits.{bit_high, bits_below}
use Rattle.theory.proofs.Fixed.{each_fixed, fixed_each}
use Rattle.theory.proofs.Sound.{sound_shape}
use Rattle.theory.proofs.Walks.{smaller, walk_end, length_table, table_row, fit_table}
use Rattle.theory.proofs.Serving.{none_serves, first_serves}
use Rattle.theory.proofs.Refused.{Passed, passed, none_applies, refused-more, behind_passed, refusal_le, refused-reply}
use Rattle.demands.proofs.Stands.{accepted_zero, zero_accepted, number_of_lem}

-- ---- what is tested of the cells and the nodes

module _ (n used m p : ℕ) (order c : List ℕ) where
  abbrev node_rows : List Row
  node_rows = flag_count n ∷ order_places n order ∷ cells c ∷ records n order c used ∷ node used m ∷ node used p ∷ []

  pub nodes_fit : Passed node_rows → NodesFit n used m p order c
  nodes_fit (few, (o, (f, (s, (h, (g, _)))))) =
      record {
        few = ltb-false 10 n few;
        order_fits = not-false _ o;
        lent = not-false _ f;
        is_sound = not-false _ s;
        rule = ltb-false (used + 1) m h;
        pass_rule = ltb-false (used + 1) p g;
      }

  pub fit_nodes : NodesFit n used m p order c → Passed node_rows
  fit_nodes x = (
    le-ltb 10 n x.few,
    (ap not x.order_fits, (ap not x.lent, (ap not x.is_sound, (le-ltb (used + 1) m x.rule, (le-ltb (used + 1) p x.pass_rule, tt))))),
  )

-- ---- what refusal 9 tests

module _ (n wanted fixed ones : ℕ) where
  aim_fits : n ≤ 10 → refusal (aim_rows n wanted fixed ones) ≡ 0 → AimFits n wanted fixed ones
  aim_fits few z =
      let (w, (f, (g, (h, _)))) = passed (aim_rows n wanted fixed ones) refl z in
      let ones_lt = below ones (leb-false (2 ^ n) ones g) in
      record {
        wanted_fits = ltb-false 1 wanted w;
        fixed_below = below fixed (leb-false (2 ^ n) fixed f);
        ones_below = ones_lt;
        ones_fixed_lem = λ i one. each_fixed fixed ones (not-false _ h) i (omega (arith, few, ones_lt i one)) one;
      }
    where
      below : (set : ℕ) → set < 2 ^ n → (i : ℕ) → bit set i ≡ 1 → i < n
      below set h i one = elim (dec_lt i n) [ yes l ↦ l | no d ↦ absurd (omega (arith, one, bit_high n set i h (omega (arith, d)))) ]

  fits_aim : AimFits n wanted fixed ones → Passed (aim_rows n wanted fixed ones)
  fits_aim a = (
    le-ltb 1 wanted a.wanted_fits,
    (
      lt-leb (2 ^ n) fixed (bits_below n fixed a.fixed_below),
      (
        lt-leb (2 ^ n) ones (bits_below n ones a.ones_below),
        (ap not (fixed_each fixed ones (λ i h. a.ones_fixed_lem i)), tt),
      ),
    ),
  )

-- rows that all have one number give it or none
nine_or_none : (a b c d : Bool) → refusal ((a, 9) ∷ (b, 9) ∷ (c, 9) ∷ (d, 9) ∷ []) ≢ 0 → refusal ((a, 9) ∷ (b, 9) ∷ (c, 9) ∷ (d, 9) ∷ []) ≡ 9
nine_or_none true b c d e = refl
nine_or_none false true c d e = refl
nine_or_none false false true d e = refl
nine_or_none false false false true e = refl
nine_or_none false false false false e = absurd (e refl)

-- ---- one call

module _ (n used m wanted p fixed ones : ℕ) (order c : List ℕ) where
  -- the table's rows that serve
  abbrev found : List ℕ
  found = serving_in n c m wanted p fixed ones

  -- the rows of the refusal table: those of the cells and of both nodes, those of the aim, and the last; all together
  abbrev nodes : List Row
  nodes = node_rows n used m p order c

  abbrev aim : List Row
  aim = aim_rows n wanted fixed ones

  abbrev last : List Row
  last = no_such_row found ∷ []

  abbrev all : List Row
  all = provoke_rows n order c used m wanted p fixed ones

  -- what is given: a number of the cells and the nodes; 9; or what the rows that serve tell
  data Outcome : Type 0 where
    ahead : refusal nodes ≢ 0 → refusal all ≡ refusal nodes → refusal all ≤ 7 → Outcome
    unfit : Passed nodes → refusal aim ≢ 0 → refusal all ≡ 9 → Outcome
    none : Passed nodes → Passed aim → found ≡ [] → refusal all ≡ 15 → Outcome
    one : (x : ℕ) (xs : List ℕ) → Passed nodes → Passed aim → found ≡ x ∷ xs → refusal all ≡ 0 → Outcome

  outcome : Outcome
  outcome = go (ℕ_discrete (refusal nodes) 0) (ℕ_discrete (refusal aim) 0)
    where
      listed : Passed nodes → Passed aim → (l : List ℕ) → found ≡ l → Outcome
      listed x y [] e = none x y e (behind_passed nodes (aim ++ last) x ∙ behind_passed aim last y ∙ rw e)
      listed x y (r ∷ l) e =
          one r l x y e (behind_passed nodes (aim ++ last) x ∙ behind_passed aim last y ∙ rw (e, ne_eqb (length (r ∷ l)) 0 (λ q. omega arith)))

      go : Dec (refusal nodes ≡ 0) → Dec (refusal aim ≡ 0) → Outcome
      go (no d) q = let e = sym (refused-more nodes (aim ++ last) d) in ahead d e (omega (arith, e, refusal_le 7 nodes refl))
      go (yes z) (no d) =
          let x = passed nodes refl z in
          unfit x d (behind_passed nodes (aim ++ last) x ∙ sym (refused-more aim last d) ∙ nine_or_none (ltb 1 wanted) (leb (2 ^ n) fixed) (leb (2 ^ n) ones) (not (ones_fixed fixed ones)) d)
      go (yes z) (yes y) = listed (passed nodes refl z) (passed aim refl y) found refl

  -- what the first of the rows that serve is
  lowest_row : Passed nodes → Passed aim → (x : ℕ) (xs : List ℕ) → found ≡ x ∷ xs
      → Serves (table_of n c m) wanted (table_of n c p) fixed ones x
      × ((other : ℕ) → Serves (table_of n c m) wanted (table_of n c p) fixed ones other → x ≤ other)
  lowest_row t y x xs e =
      let f = nodes_fit n used m p order c t in
      let (_, (fixed-lt, _)) = y in
      first_serves (table_of n c m) wanted (table_of n c p) fixed ones
      (fit_table (smaller (sound_shape n order c used f.is_sound)) n p f.pass_rule)
      (omega (arith, leb-false (2 ^ n) fixed fixed-lt, pow_mono f.few))
      x
      xs
      e

  none_listed : found ≡ [] → NoneServes (table_of n c m) wanted (table_of n c p) fixed ones
  none_listed e = none_serves (table_of n c m) wanted (table_of n c p) fixed ones e

  module _ {r : Reply} (x : Provokes n order c used m wanted p fixed ones r) where
    abbrev values : List ℕ
    values = get_or found 0 0 ∷ []

    is_accepted : Accepted r → refusal all ≡ 0
    is_accepted = accepted_zero (refusal all) values x.answer

    number : number_of r ≡ refusal all
    number = ap number_of x.answer ∙ number_of_lem (refusal all) values

    pub lowest : ProvokedBy (table_of n c m) wanted (table_of n c p) fixed ones r
    lowest =
        elim outcome [
          | ahead d e l ↦ record { row_is = λ a. absurd (d (sym e ∙ is_accepted a)); none_is = λ k. absurd (omega (arith, k, number, l)) }
          | unfit t d e ↦ record { row_is = λ a. absurd (omega (arith, e, is_accepted a)); none_is = λ k. absurd (omega (arith, k, number, e)) }
          | none t y q e ↦ record { row_is = λ a. absurd (omega (arith, e, is_accepted a)); none_is = λ k. none_listed q }
          | one y ys t u q e ↦
              let (v, low) = lowest_row t u y ys q in
              record {
                row_is = λ a. (y, x.answer ∙ rw (e, q), v, low);
                none_is = λ k. absurd (omega (arith, k, number, e));
              }
        ]

    no_such_row_lem : number_of r ≡ 15 → NodesFit n used m p order c × AimFits n wanted fixed ones × NoneServes (table_of n c m) wanted (table_of n c p) fixed ones
    no_such_row_lem k =
        elim outcome [
          | ahead d e l ↦ absurd (omega (arith, k, number, l))
          | unfit t d e ↦ absurd (omega (arith, k, number, e))
          | none t y q e ↦ let f = nodes_fit n used m p order c t in (f, aim_fits n wanted fixed ones f.few (none_applies aim y), none_listed q)
          | one y ys t u q e ↦ absurd (omega (arith, k, number, e))
        ]

    refused_none : NodesFit n used m p order c × AimFits n wanted fixed ones × NoneServes (table_of n c m) wanted (table_of n c p) fixed ones → number_of r ≡ 15
    refused_none (f, a, g) =
        elim outcome [
          | ahead d e l ↦ absurd (d (none_applies nodes (fit_nodes n used m p order c f)))
          | unfit t d e ↦ absurd (d (none_applies aim (fits_aim n wanted fixed ones a)))
          | none t y q e ↦ number ∙ e
          | one y ys t u q e ↦ absurd (g y (lowest_row t u y ys q).0)
        ]

    abbrev SomeServes : Type 0
    SomeServes = (row : ℕ) × Serves (table_of n c m) wanted (table_of n c p) fixed ones row

    some_found : Accepted r → NodesFit n used m p order c × AimFits n wanted fixed ones × SomeServes
    some_found a =
        elim outcome [
          | ahead d e l ↦ absurd (d (sym e ∙ is_accepted a))
          | unfit t d e ↦ absurd (omega (arith, e, is_accepted a))
          | none t y q e ↦ absurd (omega (arith, e, is_accepted a))
          | one y ys t u q e ↦
              let f = nodes_fit n used m p order c t in
              (f, aim_fits n wanted fixed ones f.few (none_applies aim u), (y, (lowest_row t u y ys q).0))
        ]

    found_some : NodesFit n used m p order c × AimFits n wanted fixed ones × SomeServes → Accepted r
    found_some (f, a, (row, v)) =
        elim outcome [
          | ahead d e l ↦ absurd (d (none_applies nodes (fit_nodes n used m p order c f)))
          | unfit t d e ↦ absurd (d (none_applies aim (fits_aim n wanted fixed ones a)))
          | none t y q e ↦ absurd (none_listed q row v)
          | one y ys t u q e ↦ zero_accepted (refusal all) values x.answer e
        ]

    is_nine : number_of r ≡ 9 → NodesFit n used m p order c × (AimFits n wanted fixed ones → ⊥)
    is_nine k =
        elim outcome [
          | ahead d e l ↦ absurd (omega (arith, k, number, l))
          | unfit t d e ↦ (nodes_fit n used m p order c t, λ a. d (none_applies aim (fits_aim n wanted fixed ones a)))
          | none t y q e ↦ absurd (omega (arith, k, number, e))
          | one y ys t u q e ↦ absurd (omega (arith, k, number, e))
        ]

    nine_is : NodesFit n used m p order c × (AimFits n wanted fixed ones → ⊥) → number_of r ≡ 9
    nine_is (f, g) =
        elim outcome [
          | ahead d e l ↦ absurd (d (none_applies nodes (fit_nodes n used m p order c f)))
          | unfit t d e ↦ number ∙ e
          | none t y q e ↦ absurd (g (aim_fits n wanted fixed ones f.few (none_applies aim y)))
          | one y ys t u q e ↦ absurd (g (aim_fits n wanted fixed ones f.few (none_applies aim u)))
        ]

    refuses : number_of r ≢ 0
        → (r ≡ refused (number_of r) (0 ∷ [])) × (number_of r ≢ 9 → number_of r ≢ 15 → number_of r ≡ refusal nodes) × (number_of r ≢ 14)
    refuses d = (
      x.answer ∙ sym (refused-reply (refusal all) values (λ z. d (number ∙ z))) ∙ ap (λ (k : ℕ). refused k (0 ∷ [])) (sym number),
      λ a b.
          elim outcome [
            | ahead _ e l ↦ number ∙ e
            | unfit t _ e ↦ absurd (a (number ∙ e))
            | none t y q e ↦ absurd (b (number ∙ e))
            | one y ys t u q e ↦ absurd (d (number ∙ e))
          ],
      λ k.
          elim outcome [
            | ahead _ e l ↦ omega (arith, k, number, l)
            | unfit t _ e ↦ omega (arith, k, number, e)
            | none t y q e ↦ omega (arith, k, number, e)
            | one y ys t u q e ↦ omega (arith, k, number, e)
          ],
    )

    -- where the cells and the nodes are fit, they give no number
    pub neither : NodesFit n used m p order c → (number_of r ≢ 6) × (number_of r ≢ 7)
    neither f =
        elim outcome [
          | ahead d e l ↦ absurd (d (none_applies nodes (fit_nodes n used m p order c f)))
          | unfit t _ e ↦ (λ k. omega (arith, k, number, e), λ k. omega (arith, k, number, e))
          | none t y q e ↦ (λ k. omega (arith, k, number, e), λ k. omega (arith, k, number, e))
          | one y ys t u q e ↦ (λ k. omega (arith, k, number, e), λ k. omega (arith, k, number, e))
        ]

    -- the walk for the row that is handed back
    played : (row : ℕ) (q : Reply) → Gives r (row ∷ []) → Walks n order c used m (some p) row q
        → (set : ℕ) × (count : ℕ) × Gives q (wanted ∷ set ∷ count ∷ [])
    played row q g w =
        let a : Accepted r = rw g tt in
        let (f, _, _) = some_found a in
        let (y, h, v, _) = lowest.row_is a in
        let same : row ≡ y = first_same (sym g ∙ h) in
        let there : row < 2 ^ n = omega (arith, same, v.there, length_table n c m) in
        let allowed : get_or (table_of n c p) row 0 ≡ 1 = ap (λ (i : ℕ). get_or (table_of n c p) i 0) same ∙ v.allowed in
        let (t₁, (t₂, (t₃, (t₄, (t₅, (t₆, _)))))) = fit_nodes n used m p order c f in
        let taken : refusal (walk_rows n order c used m (some p) row) ≡ 0 =
        none_applies (walk_rows n order c used m (some p) row)
        (t₁, (t₂, (t₃, (t₄, (t₅, (t₆, (lt-leb (2 ^ n) row there, (ne_eqb (get_or (table_of n c p) row 0) 0 (λ z. omega (arith, z, allowed)), tt)))))))) in
        let answers = sym (table_row n c m row there) ∙ ap (λ (i : ℕ). get_or (table_of n c m) i 0) same ∙ v.answers in (
          flag_set (flags_asked c m row),
          length (flags_asked c m row),
          w.answer ∙ ap (λ (k : ℕ). reply k (walk_values c m row)) taken ∙ ap (λ (i : ℕ). accepted (i ∷ flag_set (flags_asked c m row) ∷ length (flags_asked c m row) ∷ [])) answers,
        )
      where
        first_same : {a b : ℕ} → accepted (a ∷ []) ≡ accepted (b ∷ []) → a ≡ b
        first_same e = cc

-- ---- two calls

-- past the cells and the nodes an answer goes by the tables
by_tables : (n used m wanted p fixed ones : ℕ) (order c : List ℕ) {r : Reply} → Provokes n order c used m wanted p fixed ones r → NodesFit n used m p order c
    → (t u : List ℕ) → table_of n c m ≡ t → table_of n c p ≡ u
    → r ≡ reply (refusal (aim_rows n wanted fixed ones ++ (no_such_row (serving t wanted u fixed ones) ∷ []))) (get_or (serving t wanted u fixed ones) 0 0 ∷ [])
by_tables n used m wanted p fixed ones order c x f t u et eu =
    x.answer
    ∙ ap (λ (k : ℕ). reply k (get_or (serving_in n c m wanted p fixed ones) 0 0 ∷ []))
    (behind_passed (node_rows n used m p order c)
    (aim_rows n wanted fixed ones ++ (no_such_row (serving_in n c m wanted p fixed ones) ∷ []))
    (fit_nodes n used m p order c f))
    ∙ rw (et, eu)

pub provocation : Provocation
provocation =
    record {
      lowest = λ n used m wanted p fixed ones order c r x. lowest n used m wanted p fixed ones order c x;
      none = λ n used m wanted p fixed ones order c r x. (no_such_row_lem n used m wanted p fixed ones order c x, refused_none n used m wanted p fixed ones order c x);
      some_row = λ n used m wanted p fixed ones order c r x. (some_found n used m wanted p fixed ones order c x, found_some n used m wanted p fixed ones order c x);
      nine = λ n used m wanted p fixed ones order c r x. (is_nine n used m wanted p fixed ones order c x, nine_is n used m wanted p fixed ones order c x);
      refuses = λ n used m wanted p fixed ones order c r x. refuses n used m wanted p fixed ones order c x;
      alike = λ n used m used' m' wanted p p' fixed ones order c order' c' r q x y f g et eu.
          by_tables n used m wanted p fixed ones order c x f (table_of n c' m') (table_of n c' p') et eu
          ∙ sym (by_tables n used' m' wanted p' fixed ones order' c' y g (table_of n c' m') (table_of n c' p') refl refl);
      played = λ n used m wanted p fixed ones row order c r q x g w. played n used m wanted p fixed ones order c x row q g w;
      every_row_lem = λ n row c h. table_row n c 1 row h ∙ walk_end c 1 row (omega arith);
    }
