-- `joining::nodes::join_nodes` meets its contract: the measure is the number of flags left in the order, and each step is one of Joined.antt and Down.antt.
-- Assumes nothing.
use mathlib.Core.Path.{sym}
use native.Mathlib.Omega.{arith}
use Rattle.apply.proofs.Down.{stands, grown_ready, full_low, made}
use Rattle.joining.proofs.Joined.{terminal_join, is_record, top, top_fits, join_split, low_from, low_rule, high_from, high_rule}
use Rattle.joining.proofs.nodes.+join_nodes.Goals as goal

pub returns-in-Some : goal.returns-in-Some
returns-in-Some t c = let p = c.requires in terminal_join p.1 p.2 p.3 _ (sym c.in-Some.ensures)

pub earlier-top-requires : goal.earlier-top-requires
earlier-top-requires t c = let p = c.requires in (stands p.1 p.2, stands p.1 p.3)

pub overflow_sub-top : goal.overflow_sub-top
overflow_sub-top t c = let p = c.requires in
    is_record p.1 p.2 p.3 _ (sym c.in_default.ensures) c.earlier-top.ensures

pub flag_at-flag-requires : goal.flag_at-flag-requires
flag_at-flag-requires t c = let p = c.requires in
    top_fits p.1 p.2 p.3 _ (sym c.in_default.ensures) c.earlier-top.ensures

pub level-next-requires : goal.level-next-requires
level-next-requires t c = let p = c.requires in
    let down = sym c.in_default.ensures in
    (top p.1 p.2 p.3 _ down c.earlier-top.ensures c.flag_at-flag.ensures).0

pub overflow_add-next : goal.overflow_add-next
overflow_add-next t c = let p = c.requires in
    let down = sym c.in_default.ensures in
    omega (arith, c.level-next.ensures, c.args.levels.few, (top p.1 p.2 p.3 _ down c.earlier-top.ensures c.flag_at-flag.ensures).2)

pub join_nodes-no-requires : goal.join_nodes-no-requires
join_nodes-no-requires t c = let p = c.requires in
    let down = sym c.in_default.ensures in
    let e = c.earlier-top.ensures in
    let k = c.level-next.ensures in
    let (_, from, less, _, _) = top p.1 p.2 p.3 _ down e c.flag_at-flag.ensures in
    let (f, g) = low_from p.1 p.2 p.3 _ down e c.flag_at-flag.ensures c.both_branches-fs.ensures.0 c.both_branches-gs.ensures.0 k in
    (omega (arith, c.decreases, from, less, k), (omega (arith, p.0), p.1, f, g))

pub join_nodes-yes-requires : goal.join_nodes-yes-requires
join_nodes-yes-requires t c = let p = c.requires in
    let down = sym c.in_default.ensures in
    let e = c.earlier-top.ensures in
    let k = c.level-next.ensures in
    let a = c.join_nodes-no.ensures in
    let (_, from, less, _, _) = top p.1 p.2 p.3 _ down e c.flag_at-flag.ensures in
    let (f, g) = high_from p.1 p.2 p.3 _ down e c.flag_at-flag.ensures a c.both_branches-fs.ensures.1 c.both_branches-gs.ensures.1 k in
    (omega (arith, c.decreases, from, less, k), (p.0, grown_ready p.1 a, f, g))

pub returns-in_default-found : goal.returns-in_default-found
returns-in_default-found t c = let p = c.requires in
    let down = sym c.in_default.ensures in
    let e = c.earlier-top.ensures in
    full_low (join_split p.1 p.2 p.3 _ down e c.flag_at-flag.ensures) (top p.1 p.2 p.3 _ down e c.flag_at-flag.ensures).1
    (low_rule p.1 p.2 p.3 _ down e c.flag_at-flag.ensures c.both_branches-fs.ensures.0 c.both_branches-gs.ensures.0) c.join_nodes-no.ensures c.in_default-found.is

pub returns : goal.returns
returns t c = let p = c.requires in
    let down = sym c.in_default.ensures in
    let e = c.earlier-top.ensures in
    let k = c.level-next.ensures in
    let f = c.both_branches-fs.ensures in
    let g = c.both_branches-gs.ensures in
    let a = c.join_nodes-no.ensures in
    made (join_split p.1 p.2 p.3 _ down e c.flag_at-flag.ensures) (top p.1 p.2 p.3 _ down e c.flag_at-flag.ensures).1
    (low_rule p.1 p.2 p.3 _ down e c.flag_at-flag.ensures f.0 g.0) a
    (high_rule p.1 p.2 p.3 _ down e c.flag_at-flag.ensures a f.1 g.1) c.join_nodes-yes.ensures
    (omega (arith, k)) (omega (arith, k)) c.in-Some-found.is c.make_above.ensures
