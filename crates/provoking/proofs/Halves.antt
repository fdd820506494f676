-- The rows of a search: of two end nodes the row itself is the lowest or none serves, and before that the next flag of the order splits them into two halves.
-- Assumes nothing.
use mathlib.Core.Path.{◌≡◌, refl, sym, ap, ◌∙◌}
use mathlib.Core.Logic.{◌⊎◌, inl, inr, ◌≢◌}
use mathlib.Core.Bool.{Bool, true, false, not, ◌&&◌, true≢false}
use mathlib.Core.List.{List}
use Prim.Native.Nat.{ℕ, ◌+◌, ◌^◌, ◌≤◌, ◌<◌}
use native.Mathlib.Decide.{ℕ_discrete, dec_lt}
use native.Mathlib.Omega.{arith}
use borrow.Author.Tests.{lt-ltb, ltb-true, eqb-true, eqb-false, not-true}
use lib.Dec.{eqb, ltb}
use lib.ListN.{get_or}
use lib.Pow.{pow_mono}
use Rattle.rule.specs.Bits.{bit, set_bit}
use Rattle.rule.specs.Order.{flags}
use Rattle.rule.specs.Cells.{flag_at}
use Rattle.rule.specs.Walk.{table_of}
use Rattle.theory.specs.Child.{child}
use Rattle.theory.specs.Level.{level_of}
use Rattle.theory.proofs.Tests.{and_split, and_join}
use Rattle.theory.proofs.Bits.{bit_lt, bits_le, bit-same, bit_other, set_bit_lt, set_bit_own}
use Rattle.theory.proofs.Sets.{Order}
use Rattle.theory.proofs.Orders.{fit_order_is}
use Rattle.theory.proofs.Levels.{level_lt, place_flag, place_level}
use Rattle.theory.proofs.Walks.{node, walk_end, length_table, table_row}
use Rattle.theory.proofs.Canonical.{level_record}
use Rattle.theory.proofs.Descents.{Comes, comes, comes_row}
use Rattle.provoking.specs.Search.{no_row, Seeking, ServesIn, Lowest}

-- the flag that is next in the order, and the fixed flags with it
abbrev next_flag : List ℕ → ℕ → ℕ
next_flag order at = get_or order at 0

abbrev settled_by : List ℕ → ℕ → ℕ → ℕ
settled_by order at fixed = set_bit fixed (next_flag order at) 1

-- an end node's rows
end_row : (n : ℕ) (c : List ℕ) (m q : ℕ) → m < 2 → q < 2 ^ n → get_or (table_of n c m) q 0 ≡ m
end_row n c m q l h = table_row n c m q h ∙ walk_end c m q l

-- ---- the next flag

module _ {n at used rule pass fixed row : ℕ} {order c : List ℕ} (s : Seeking n order at c used rule pass fixed row) where
  ord : Order n (flags n order)
  ord = fit_order_is n order s.order_fits

  -- there is one where one of the nodes is a record
  record_before : (m : ℕ) → m ≤ used + 1 → at ≤ level_of n order c m → 2 ≤ m → at < n
  record_before m h later two =
      elim (node m) [
        | inl l ↦ absurd (omega arith)
        | inr (k, e) ↦
            let f = s.is_sound.flag k (omega arith) in
            omega (arith, later, ap (level_of n order c) e, level_record n order c k, level_lt ord (flag_at c k) f)
      ]

  pub flag_left : (ltb rule 2 && ltb pass 2) ≡ false → at < n
  flag_left t = go (dec_lt rule 2) (dec_lt pass 2)
    where
      go : Dec (rule < 2) → Dec (pass < 2) → at < n
      go (no d) q = record_before rule s.rule_node s.rule_later (omega arith)
      go (yes l) (no d) = record_before pass s.pass_node_lem s.pass_later (omega arith)
      go (yes l) (yes m) = absurd (true≢false (sym (and_join (lt-ltb rule 2 l) (lt-ltb pass 2 m)) ∙ t))

  module _ (h : at < n) where
    pub flag_lt : next_flag order at < n
    flag_lt = place_flag order ord h

    to : (b m : ℕ) → b < 2 → m ≤ used + 1 → at ≤ level_of n order c m → Comes s.is_sound ord (next_flag order at) b m (child c (next_flag order at) b m)
    to b m k le later = comes s.is_sound ord (next_flag order at) b m le flag_lt (omega (arith, place_level order ord h, later)) k

    rule_to : (b : ℕ) → b < 2 → Comes s.is_sound ord (next_flag order at) b rule (child c (next_flag order at) b rule)
    rule_to b k = to b rule k s.rule_node s.rule_later

    pass_to : (b : ℕ) → b < 2 → Comes s.is_sound ord (next_flag order at) b pass (child c (next_flag order at) b pass)
    pass_to b k = to b pass k s.pass_node_lem s.pass_later

    -- the half of the rows in which the flag is b
    half_is : (b : ℕ) → b < 2 → Seeking n order (at + 1) c used (child c (next_flag order at) b rule) (child c (next_flag order at) b pass) (settled_by order at fixed) (set_bit row (next_flag order at) b)
    half_is b k =
        record {
          few = s.few;
          order_fits = s.order_fits;
          is_sound = s.is_sound;
          rule_node = (rule_to b k).le;
          pass_node_lem = (pass_to b k).le;
          rule_later = omega (arith, (rule_to b k).later, place_level order ord h);
          pass_later = omega (arith, (pass_to b k).later, place_level order ord h);
          fixed_fits = set_bit_lt n fixed (next_flag order at) 1 s.fixed_fits flag_lt (omega arith);
          row_fits = set_bit_lt n row (next_flag order at) b s.row_fits flag_lt k;
          ones_fixed_lem = λ i e. elim (ℕ_discrete (next_flag order at) i) [
            | yes q ↦ ap (bit (settled_by order at fixed)) (sym q) ∙ bit-same fixed (next_flag order at) 1 (omega arith)
            | no d ↦
                bit_other fixed (next_flag order at) i 1 (omega arith) d
                ∙ s.ones_fixed_lem i (sym (bit_other row (next_flag order at) i b k d) ∙ e)
          ];
        }

    pub half : (b : ℕ) {r p x y : ℕ} → b < 2 → r ≡ child c (next_flag order at) b rule → p ≡ child c (next_flag order at) b pass
        → x ≡ settled_by order at fixed → y ≡ set_bit row (next_flag order at) b → Seeking n order (at + 1) c used r p x y
    half b k er ep ex ey = rw (er, ep, ex, ey) (half_is b k)

    -- the one with the row's own value: it is that of the row
    pub half_own : {value r p x : ℕ} → value ≡ bit row (next_flag order at) → r ≡ child c (next_flag order at) value rule
        → p ≡ child c (next_flag order at) value pass → x ≡ settled_by order at fixed → Seeking n order (at + 1) c used r p x row
    half_own {value} is er ep ex =
        half value (omega (arith, is, bit_lt row (next_flag order at))) er ep ex
        (sym (ap (set_bit row (next_flag order at)) is ∙ set_bit_own row (next_flag order at)))

-- what is found for equal arguments
pub found_as : {n wanted r r' p p' x x' y y' found : ℕ} {c : List ℕ} → r ≡ r' → p ≡ p' → x ≡ x' → y ≡ y' → Lowest n c wanted r p x y found
    → Lowest n c wanted r' p' x' y' found
found_as er ep ex ey f = rw (er, ep, ex, ey) at f

-- it is a row of at most ten flags, or stands for none
pub at_most : {n wanted rule pass fixed row found : ℕ} {c : List ℕ} → n ≤ 10 → Lowest n c wanted rule pass fixed row found → found ≤ no_row
at_most {n} {rule = rule} {c = c} few f =
    elim f.found_is [ inl e ↦ omega (arith, e) | inr v ↦ omega (arith, v.there, length_table n c rule, pow_mono few) ]

-- ---- the rows that serve

-- the row is the lowest that has its values of the fixed flags: it has no other 1
row_le : {n at used rule pass fixed row : ℕ} {order c : List ℕ} → Seeking n order at c used rule pass fixed row → (wanted q : ℕ)
    → ServesIn n c wanted rule pass fixed row q → row ≤ q
row_le {n} {row = row} s wanted q v = bits_le n row q s.row_fits (λ i h. within i (ℕ_discrete (bit row i) 1))
  where
    within : (i : ℕ) → Dec (bit row i ≡ 1) → bit row i ≤ bit q i
    within i (yes e) = omega (arith, v.has_fixed_lem i (s.ones_fixed_lem i e))
    within i (no d) = omega (arith, d, bit_lt row i)

module _ {n at used rule pass fixed row : ℕ} {order c : List ℕ} (s : Seeking n order at c used rule pass fixed row) (wanted : ℕ) where
  in_table : {q : ℕ} → ServesIn n c wanted rule pass fixed row q → q < 2 ^ n
  in_table v = omega (arith, v.there, length_table n c rule)

  -- none serves
  none : {found : ℕ} → ((q : ℕ) → ServesIn n c wanted rule pass fixed row q → ⊥) → found ≡ no_row → Lowest n c wanted rule pass fixed row found
  none f e = record { least = λ q v. absurd (f q v); found_is = inl e }

  pub none_allowed : {found : ℕ} → pass ≡ 0 → found ≡ no_row → Lowest n c wanted rule pass fixed row found
  none_allowed z = none (λ q v. omega (arith, z, v.allowed, end_row n c pass q (omega arith) (in_table v)))

  pub none_wanted : {found : ℕ} → (ltb rule 2 && not (eqb rule wanted)) ≡ true → found ≡ no_row → Lowest n c wanted rule pass fixed row found
  none_wanted t =
      let (l, d) = and_split (ltb rule 2) (not (eqb rule wanted)) t in
      none (λ q v. eqb-false rule wanted (not-true _ d) (sym (end_row n c rule q (ltb-true rule 2 l) (in_table v)) ∙ v.answers))

  -- the row itself does
  pub own_row : pass ≢ 0 → (ltb rule 2 && not (eqb rule wanted)) ≡ false → (ltb rule 2 && ltb pass 2) ≡ true → Lowest n c wanted rule pass fixed row row
  own_row d t u =
      let (l, h) = and_split (ltb rule 2) (ltb pass 2) u in
      let p = ltb-true pass 2 h in
      record {
        least = row_le s wanted;
        found_is = inr (record {
          there = omega (arith, s.row_fits, length_table n c rule);
          allowed = end_row n c pass row p s.row_fits ∙ omega (arith, d, p);
          has_fixed_lem = λ i e. refl;
          answers = end_row n c rule row (ltb-true rule 2 l) s.row_fits
              ∙ is_wanted (eqb rule wanted) refl (sym (ap (λ (b : Bool). b && not (eqb rule wanted)) l) ∙ t);
        });
      }
    where
      is_wanted : (b : Bool) → eqb rule wanted ≡ b → not b ≡ false → rule ≡ wanted
      is_wanted true e f = eqb-true rule wanted e
      is_wanted false e f = absurd (true≢false f)

  module _ (h : at < n) where
    abbrev flag : ℕ
    flag = next_flag order at

    -- those of the half in which the flag is b
    abbrev ServesHalf : ℕ → ℕ → Type 0
    ServesHalf b q = ServesIn n c wanted (child c (next_flag order at) b rule) (child c (next_flag order at) b pass) (settled_by order at fixed) (set_bit row (next_flag order at) b) q

    into : (b : ℕ) → b < 2 → (q : ℕ) → bit q (next_flag order at) ≡ b → ServesIn n c wanted rule pass fixed row q → ServesHalf b q
    into b k q e v =
        let l = in_table v in
        record {
          there = omega (arith, l, length_table n c (child c flag b rule));
          allowed = comes_row s.is_sound (ord s) (pass_to s h b k) q l e ∙ v.allowed;
          has_fixed_lem = λ i one. elim (ℕ_discrete flag i) [
            | yes z ↦ ap (bit q) (sym z) ∙ e ∙ sym (bit-same row flag b k) ∙ ap (bit (set_bit row flag b)) z
            | no d ↦ v.has_fixed_lem i (sym (bit_other fixed flag i 1 (omega arith) d) ∙ one) ∙ sym (bit_other row flag i b k d)
          ];
          answers = comes_row s.is_sound (ord s) (rule_to s h b k) q l e ∙ v.answers;
        }

    back : (b : ℕ) → b < 2 → (bit fixed (next_flag order at) ≡ 1 → b ≡ bit row (next_flag order at)) → (q : ℕ) → ServesHalf b q → ServesIn n c wanted rule pass fixed row q
    back b k f q v =
        let l : q < 2 ^ n = omega (arith, v.there, length_table n c (child c flag b rule)) in
        let e : bit q flag ≡ b = v.has_fixed_lem flag (bit-same fixed flag 1 (omega arith)) ∙ bit-same row flag b k in
        record {
          there = omega (arith, l, length_table n c rule);
          allowed = sym (comes_row s.is_sound (ord s) (pass_to s h b k) q l e) ∙ v.allowed;
          has_fixed_lem = λ i one. elim (ℕ_discrete flag i) [
            | yes z ↦ ap (bit q) (sym z) ∙ e ∙ f (ap (bit fixed) z ∙ one) ∙ ap (bit row) z
            | no d ↦ v.has_fixed_lem i (bit_other fixed flag i 1 (omega arith) d ∙ one) ∙ bit_other row flag i b k d
          ];
          answers = sym (comes_row s.is_sound (ord s) (rule_to s h b k) q l e) ∙ v.answers;
        }

    found_back : (b : ℕ) → b < 2 → (bit fixed (next_flag order at) ≡ 1 → b ≡ bit row (next_flag order at)) → {found : ℕ} → (found ≡ no_row) ⊎ ServesHalf b found
        → (found ≡ no_row) ⊎ ServesIn n c wanted rule pass fixed row found
    found_back b k f {found} r = elim r [ inl z ↦ inl z | inr v ↦ inr (back b k f found v) ]

    -- what was found with the row's own value of the flag
    module _ {value here : ℕ} (is : value ≡ bit row (next_flag order at))
        (f : Lowest n c wanted (child c (next_flag order at) value rule) (child c (next_flag order at) value pass) (settled_by order at fixed) row here) where
      value_lt : value < 2
      value_lt = omega (arith, is, bit_lt row flag)

      own : set_bit row (next_flag order at) value ≡ row
      own = ap (set_bit row flag) is ∙ set_bit_own row flag

      here_least : (q : ℕ) → bit q (next_flag order at) ≡ value → ServesIn n c wanted rule pass fixed row q → here ≤ q
      here_least q e v = f.least q (rw own at (into value value_lt q e v))

      here_is : (here ≡ no_row) ⊎ ServesIn n c wanted rule pass fixed row here
      here_is = found_back value value_lt (λ _. is) (rw own f.found_is)

      -- a fixed flag has that value
      pub fixed_way : bit fixed (next_flag order at) ≡ 1 → Lowest n c wanted rule pass fixed row here
      fixed_way one = record { least = λ q v. here_least q (v.has_fixed_lem flag one ∙ sym is) v; found_is = here_is }

      module _ (free : bit fixed (next_flag order at) ≢ 1) where
        -- a free one is 0 in the row
        value_zero : value ≡ 0
        value_zero = elim (ℕ_discrete value 1) [ yes e ↦ absurd (free (s.ones_fixed_lem flag (sym is ∙ e))) | no d ↦ omega (arith, d, value_lt) ]

        by_bit : (q : ℕ) → (bit q (next_flag order at) ≡ value) ⊎ (bit q (next_flag order at) ≡ 1)
        by_bit q = elim (ℕ_discrete (bit q flag) 1) [ yes e ↦ inr e | no d ↦ inl (omega (arith, d, bit_lt q flag, value_zero)) ]

        pub low_way : {next : ℕ} → next ≡ set_bit row (next_flag order at) 1 → here < next → Lowest n c wanted rule pass fixed row here
        low_way {next} e l =
            record {
              least = λ q v. elim (by_bit q) [
                | inl z ↦ here_least q z v
                | inr z ↦ omega (arith, l, e, row_le (half_is s h 1 (omega arith)) wanted q (into 1 (omega arith) q z v))
              ];
              found_is = here_is;
            }

        module _ {there : ℕ}
            (g : Lowest n c wanted (child c (next_flag order at) 1 rule) (child c (next_flag order at) 1 pass) (settled_by order at fixed) (set_bit row (next_flag order at) 1) there) where
          there_least : (q : ℕ) → bit q (next_flag order at) ≡ 1 → ServesIn n c wanted rule pass fixed row q → there ≤ q
          there_least q z v = g.least q (into 1 (omega arith) q z v)

          pub here_lower : here ≤ there → Lowest n c wanted rule pass fixed row here
          here_lower l =
              record {
                least = λ q v. elim (by_bit q) [ inl z ↦ here_least q z v | inr z ↦ omega (arith, l, there_least q z v) ];
                found_is = here_is;
              }

          pub there_lower : there ≤ here → Lowest n c wanted rule pass fixed row there
          there_lower l =
              record {
                least = λ q v. elim (by_bit q) [ inl z ↦ omega (arith, l, here_least q z v) | inr z ↦ there_least q z v ];
                found_is = found_back 1 (omega arith) (λ one. absurd (free one)) g.found_is;
              }
