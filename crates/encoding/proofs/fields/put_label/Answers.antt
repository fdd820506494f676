-- `encoding::fields::put_label` meets its contract: nothing, or the length byte and the label behind it.
-- Assumes nothing.
use mathlib.Core.List.{◌∷◌}
use native.Mathlib.Omega.{arith}
use lib.ListN.{length}
use Rattle.runs.proofs.Puts.{puts_none, puts_more}
use Rattle.encoding.proofs.Puts.{some_list, some_long}
use Rattle.encoding.proofs.fields.put_label.Goals as goal

pub returns-then-label-eq0 : goal.returns-then-label-eq0
returns-then-label-eq0 c = rw c.if-label-eq0.true (puts_none _ _)

pub put_byte-next-requires : goal.put_byte-next-requires
put_byte-next-requires c =
    let l = c.args.label.now in
    omega (arith, c.requires.1, some_long (length l) (length l ∷ l) c.if-label-eq0.false)

pub put_run-requires : goal.put_run-requires
put_run-requires c =
    let l = c.args.label.now in
    omega (arith, c.requires.1, some_long (length l) (length l ∷ l) c.if-label-eq0.false, c.put_byte-next.ensures.next_is)

pub returns : goal.returns
returns c =
    let l = c.args.label.now in
    rw (← some_list (length l) (length l ∷ l) c.if-label-eq0.false)
    (puts_more (omega (arith, c.requires.1, some_long (length l) (length l ∷ l) c.if-label-eq0.false)) c.put_byte-next.ensures c.put_run.ensures)
