-- `provoking::search::lowest` meets its contract: the measure is the number of flags left in the order, and each return is a step of Halves.antt. (That what is found
-- is at most 1,024 goes into the bounds, so that a search that takes 1 before 0 fails by its row.)
-- Assumes nothing.
use mathlib.Core.Path.{refl, sym, ◌∙◌}
use native.Mathlib.Omega.{arith}
use lib.Pow.{pow_mono}
use Rattle.provoking.proofs.Halves.{flag_left, flag_lt, half, half_own, found_as, at_most, none_allowed, none_wanted, own_row, fixed_way, low_way, here_lower, there_lower}
use Rattle.provoking.proofs.search.+lowest.Goals as goal

pub returns-then-pass-eq0 : goal.returns-then-pass-eq0
returns-then-pass-eq0 t c = none_allowed c.requires _ c.if-pass-eq0.true refl

pub returns-then-never_wanted : goal.returns-then-never_wanted
returns-then-never_wanted t c = none_wanted c.requires _ (sym c.never_wanted.ensures ∙ c.if-never_wanted.true) refl

pub returns-then-both_ends : goal.returns-then-both_ends
returns-then-both_ends t c = own_row c.requires _ c.if-pass-eq0.false (sym c.never_wanted.ensures ∙ c.if-never_wanted.false) (sym c.both_ends.ensures ∙ c.if-both_ends.true)

pub bounds-order-at : goal.bounds-order-at
bounds-order-at t c = omega (arith, c.requires.few, flag_left c.requires (sym c.both_ends.ensures ∙ c.if-both_ends.false))

pub bit-value-requires : goal.bit-value-requires
bit-value-requires t c = let h = flag_left c.requires (sym c.both_ends.ensures ∙ c.if-both_ends.false) in
    omega (arith, flag_lt c.requires h, c.requires.few)

pub set_bit-settled-requires : goal.set_bit-settled-requires
set_bit-settled-requires t c = let h = flag_left c.requires (sym c.both_ends.ensures ∙ c.if-both_ends.false) in
    (omega (arith, c.requires.fixed_fits, pow_mono c.requires.few), omega (arith, flag_lt c.requires h, c.requires.few), omega arith)

pub overflow_add-below : goal.overflow_add-below
overflow_add-below t c = let h = flag_left c.requires (sym c.both_ends.ensures ∙ c.if-both_ends.false) in
    omega (arith, c.requires.few, h)

pub lowest-here-requires : goal.lowest-here-requires
lowest-here-requires t c = let h = flag_left c.requires (sym c.both_ends.ensures ∙ c.if-both_ends.false) in
    (omega (arith, c.decreases, h), half_own c.requires h c.bit-value.ensures c.branch-m.ensures c.branch-p.ensures c.set_bit-settled.ensures)

pub bit-requires : goal.bit-requires
bit-requires t c = let h = flag_left c.requires (sym c.both_ends.ensures ∙ c.if-both_ends.false) in
    omega (arith, flag_lt c.requires h, c.requires.few)

pub returns-then-bit-eq1 : goal.returns-then-bit-eq1
returns-then-bit-eq1 t c = let h = flag_left c.requires (sym c.both_ends.ensures ∙ c.if-both_ends.false) in
    let here = found_as c.branch-m.ensures c.branch-p.ensures c.set_bit-settled.ensures refl c.lowest-here.ensures in
    let value = c.bit-value.ensures in
    fixed_way c.requires _ h value here (sym c.bit.ensures ∙ c.if-bit-eq1.true)

pub set_bit-next-requires : goal.set_bit-next-requires
set_bit-next-requires t c = let h = flag_left c.requires (sym c.both_ends.ensures ∙ c.if-both_ends.false) in
    (omega (arith, c.requires.row_fits, pow_mono c.requires.few), omega (arith, flag_lt c.requires h, c.requires.few), omega arith)

pub returns-then-here-next : goal.returns-then-here-next
returns-then-here-next t c = let h = flag_left c.requires (sym c.both_ends.ensures ∙ c.if-both_ends.false) in
    let here = found_as c.branch-m.ensures c.branch-p.ensures c.set_bit-settled.ensures refl c.lowest-here.ensures in
    let value = c.bit-value.ensures in
    low_way c.requires _ h value here (λ e. c.if-bit-eq1.false (c.bit.ensures ∙ e)) c.set_bit-next.ensures (omega (arith, c.if-here-next.true, at_most c.requires.few c.lowest-here.ensures))

pub lowest-there-requires : goal.lowest-there-requires
lowest-there-requires t c = let h = flag_left c.requires (sym c.both_ends.ensures ∙ c.if-both_ends.false) in
    (omega (arith, c.decreases, h), half c.requires h 1 (omega arith) c.branch-m-2.ensures c.branch-p-2.ensures c.set_bit-settled.ensures c.set_bit-next.ensures)

pub returns-then-here-there : goal.returns-then-here-there
returns-then-here-there t c = let h = flag_left c.requires (sym c.both_ends.ensures ∙ c.if-both_ends.false) in
    let here = found_as c.branch-m.ensures c.branch-p.ensures c.set_bit-settled.ensures refl c.lowest-here.ensures in
    let value = c.bit-value.ensures in
    let there = found_as c.branch-m-2.ensures c.branch-p-2.ensures c.set_bit-settled.ensures c.set_bit-next.ensures c.lowest-there.ensures in
    here_lower c.requires _ h value here (λ e. c.if-bit-eq1.false (c.bit.ensures ∙ e)) there (omega (arith, c.if-here-there.true, at_most c.requires.few c.lowest-here.ensures))

pub returns : goal.returns
returns t c = let h = flag_left c.requires (sym c.both_ends.ensures ∙ c.if-both_ends.false) in
    let here = found_as c.branch-m.ensures c.branch-p.ensures c.set_bit-settled.ensures refl c.lowest-here.ensures in
    let value = c.bit-value.ensures in
    let there = found_as c.branch-m-2.ensures c.branch-p-2.ensures c.set_bit-settled.ensures c.set_bit-next.ensures c.lowest-there.ensures in
    there_lower c.requires _ h value here (λ e. c.if-bit-eq1.false (c.bit.ensures ∙ e)) there (omega (arith, c.if-here-there.false))
