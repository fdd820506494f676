-- `fixing::nodes::fix_node` meets its contract: the measure is the number of flags left in the order, and each step is one of Fixed.antt and Down.antt.
-- Assumes nothing.
use native.Mathlib.Omega.{arith}
use Rattle.apply.proofs.Down.{stands, grown_ready, full_low, made}
use Rattle.fixing.proofs.Fixed.{earlier-level, fix_here, is_record, below_level, fits, from, fix_split, low_from, low_rule, high_from, high_rule, below_next}
use Rattle.fixing.proofs.nodes.+fix_node.Goals as goal

pub level_of-own-requires : goal.level_of-own-requires
level_of-own-requires t c = let p = c.requires in stands p.2 p.3

pub level-requires : goal.level-requires
level-requires t c = let p = c.requires in p.0

pub returns-then-level-own : goal.returns-then-level-own
returns-then-level-own t c = let p = c.requires in
    fix_here p.2 p.3 p.0 p.1 (omega (arith, c.level.ensures, c.level_of-own.ensures, c.if-level-own.true)) c.branch-fixed.ensures

pub overflow_sub-m : goal.overflow_sub-m
overflow_sub-m t c = let p = c.requires in
    is_record p.2 p.3 p.0 p.1 (earlier-level c.level.ensures c.level_of-own.ensures c.if-level-own.false)

pub flag_at-asked-requires : goal.flag_at-asked-requires
flag_at-asked-requires t c = let p = c.requires in fits p.2 p.3 p.0 p.1 (earlier-level c.level.ensures c.level_of-own.ensures c.if-level-own.false)

pub overflow_add-next : goal.overflow_add-next
overflow_add-next t c = let p = c.requires in
    let h = earlier-level c.level.ensures c.level_of-own.ensures c.if-level-own.false in
    omega (arith, c.args.levels.few, c.level_of-own.ensures, below_level p.2 p.3 p.0 p.1 h)

pub fix_node-no-requires : goal.fix_node-no-requires
fix_node-no-requires t c = let p = c.requires in
    let h = earlier-level c.level.ensures c.level_of-own.ensures c.if-level-own.false in
    let k = c.level_of-own.ensures in
    (omega (arith, c.decreases, below_level p.2 p.3 p.0 p.1 h, p.3.later, k), (p.0, p.1, p.2, low_from p.2 p.3 p.0 p.1 h c.flag_at-asked.ensures c.both_branches-by.ensures.0 k))

pub fix_node-yes-requires : goal.fix_node-yes-requires
fix_node-yes-requires t c = let p = c.requires in
    let h = earlier-level c.level.ensures c.level_of-own.ensures c.if-level-own.false in
    let k = c.level_of-own.ensures in
    let a = c.fix_node-no.ensures in
    (omega (arith, c.decreases, below_level p.2 p.3 p.0 p.1 h, p.3.later, k), (p.0, p.1, grown_ready p.2 a, high_from p.2 p.3 p.0 p.1 h c.flag_at-asked.ensures a c.both_branches-by.ensures.1 k))

pub returns-in_default : goal.returns-in_default
returns-in_default t c = let p = c.requires in
    let h = earlier-level c.level.ensures c.level_of-own.ensures c.if-level-own.false in
    let q = c.flag_at-asked.ensures in
    full_low (fix_split p.2 p.3 p.0 p.1 h q) (from p.2 p.3 p.0 p.1 h q) (low_rule p.2 p.3 p.0 p.1 h q c.both_branches-by.ensures.0) c.fix_node-no.ensures c.in_default.is

pub returns : goal.returns
returns t c = let p = c.requires in
    let h = earlier-level c.level.ensures c.level_of-own.ensures c.if-level-own.false in
    let q = c.flag_at-asked.ensures in
    let by = c.both_branches-by.ensures in
    let a = c.fix_node-no.ensures in
    let next = below_next p.2 p.3 p.0 p.1 h q c.level_of-own.ensures in
    made (fix_split p.2 p.3 p.0 p.1 h q) (from p.2 p.3 p.0 p.1 h q) (low_rule p.2 p.3 p.0 p.1 h q by.0) a (high_rule p.2 p.3 p.0 p.1 h q a by.1) c.fix_node-yes.ensures next next c.in-Some.is
    c.make_above.ensures
