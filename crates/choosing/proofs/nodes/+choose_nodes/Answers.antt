-- `choosing::nodes::choose_nodes` meets its contract: the measure is the number of flags left in the order, and each step is one of Chosen.antt and Down.antt.
-- Assumes nothing.
use native.Mathlib.Omega.{arith}
use Rattle.apply.proofs.Down.{stands, grown_ready, full_low, made}
use Rattle.choosing.proofs.Chosen.{no_arm, yes_arm, equal_arms, earlier_from, is_record, top_fits, top, choose_split, low_from, low_rule, high_from, high_rule}
use Rattle.choosing.proofs.nodes.+choose_nodes.Goals as goal

pub returns-then-f : goal.returns-then-f
returns-then-f t c = let p = c.requires in rw c.found.ensures (no_arm p.0 p.1 p.2 p.3 c.if-f.true)

pub returns-then-f-2 : goal.returns-then-f-2
returns-then-f-2 t c = let p = c.requires in rw c.found-then-f-2.ensures (yes_arm p.0 p.1 p.2 p.3 c.if-f-2.true)

pub returns-then-g-h : goal.returns-then-g-h
returns-then-g-h t c = let p = c.requires in rw c.found-then-g-h.ensures (equal_arms p.0 p.1 p.2 p.3 c.if-g-h.true)

pub earlier-requires : goal.earlier-requires
earlier-requires t c = let p = c.requires in (stands p.0 p.2, stands p.0 p.3)

pub earlier-top-requires : goal.earlier-top-requires
earlier-top-requires t c = let p = c.requires in (stands p.0 p.1, stands p.0 (earlier_from p.0 p.1 p.2 p.3 c.earlier.ensures))

pub overflow_sub-top : goal.overflow_sub-top
overflow_sub-top t c = let p = c.requires in
    is_record p.0 p.1 p.2 p.3 c.if-f.false c.if-f-2.false c.earlier.ensures c.earlier-top.ensures

pub flag_at-flag-requires : goal.flag_at-flag-requires
flag_at-flag-requires t c = let p = c.requires in
    top_fits p.0 p.1 p.2 p.3 c.if-f.false c.if-f-2.false c.earlier.ensures c.earlier-top.ensures

pub level-next-requires : goal.level-next-requires
level-next-requires t c = let p = c.requires in
    (top p.0 p.1 p.2 p.3 c.if-f.false c.if-f-2.false c.earlier.ensures c.earlier-top.ensures c.flag_at-flag.ensures).0

pub overflow_add-next : goal.overflow_add-next
overflow_add-next t c = let p = c.requires in
    let no_is = c.if-f.false in
    let yes_is = c.if-f-2.false in
    let d = c.earlier.ensures in
    let e = c.earlier-top.ensures in
    let q = c.flag_at-flag.ensures in
    omega (arith, c.level-next.ensures, c.args.levels.few, (top p.0 p.1 p.2 p.3 no_is yes_is d e q).2)

pub choose_nodes-no-requires : goal.choose_nodes-no-requires
choose_nodes-no-requires t c = let p = c.requires in
    let no_is = c.if-f.false in
    let yes_is = c.if-f-2.false in
    let d = c.earlier.ensures in
    let e = c.earlier-top.ensures in
    let q = c.flag_at-flag.ensures in
    let k = c.level-next.ensures in
    let (_, from, less, _, _, _) = top p.0 p.1 p.2 p.3 no_is yes_is d e q in
    let (f, g, h) = low_from p.0 p.1 p.2 p.3 no_is yes_is d e q c.both_branches-fs.ensures.0 c.both_branches-gs.ensures.0 c.both_branches-hs.ensures.0 k in
    (omega (arith, c.decreases, from, less, k), (p.0, f, g, h))

pub choose_nodes-yes-requires : goal.choose_nodes-yes-requires
choose_nodes-yes-requires t c = let p = c.requires in
    let no_is = c.if-f.false in
    let yes_is = c.if-f-2.false in
    let d = c.earlier.ensures in
    let e = c.earlier-top.ensures in
    let q = c.flag_at-flag.ensures in
    let k = c.level-next.ensures in
    let a = c.choose_nodes-no.ensures in
    let (_, from, less, _, _, _) = top p.0 p.1 p.2 p.3 no_is yes_is d e q in
    let (f, g, h) = high_from p.0 p.1 p.2 p.3 no_is yes_is d e q a c.both_branches-fs.ensures.1 c.both_branches-gs.ensures.1 c.both_branches-hs.ensures.1 k in
    (omega (arith, c.decreases, from, less, k), (grown_ready p.0 a, f, g, h))

pub returns-in_default : goal.returns-in_default
returns-in_default t c = let p = c.requires in
    let no_is = c.if-f.false in
    let yes_is = c.if-f-2.false in
    let d = c.earlier.ensures in
    let e = c.earlier-top.ensures in
    let q = c.flag_at-flag.ensures in
    full_low (choose_split p.0 p.1 p.2 p.3 no_is yes_is d e q) (top p.0 p.1 p.2 p.3 no_is yes_is d e q).1
    (low_rule p.0 p.1 p.2 p.3 no_is yes_is d e q c.both_branches-fs.ensures.0 c.both_branches-gs.ensures.0 c.both_branches-hs.ensures.0) c.choose_nodes-no.ensures c.in_default.is

pub returns : goal.returns
returns t c = let p = c.requires in
    let no_is = c.if-f.false in
    let yes_is = c.if-f-2.false in
    let d = c.earlier.ensures in
    let e = c.earlier-top.ensures in
    let q = c.flag_at-flag.ensures in
    let k = c.level-next.ensures in
    let f = c.both_branches-fs.ensures in
    let g = c.both_branches-gs.ensures in
    let h = c.both_branches-hs.ensures in
    let a = c.choose_nodes-no.ensures in
    made (choose_split p.0 p.1 p.2 p.3 no_is yes_is d e q) (top p.0 p.1 p.2 p.3 no_is yes_is d e q).1
    (low_rule p.0 p.1 p.2 p.3 no_is yes_is d e q f.0 g.0 h.0) a
    (high_rule p.0 p.1 p.2 p.3 no_is yes_is d e q a f.1 g.1 h.1) c.choose_nodes-yes.ensures
    (omega (arith, k)) (omega (arith, k)) c.in-Some.is c.make_above.ensures
