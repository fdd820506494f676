-- `paging::line::put_last` meets its contract: the word, the page's number and the line end.
-- Assumes nothing.
use native.Mathlib.Omega.{arith}
use Rattle.rule.specs.Text.{text}
use Rattle.rule.specs.Sheet.{last_line}
use Rattle.runs.proofs.Digits.{digits_fit}
use Rattle.runs.proofs.Puts.{puts_then}
use Rattle.paging.proofs.line.put_last.Goals as goal

pub put_right-end-requires : goal.put_right-end-requires
put_right-end-requires c =
    (omega (arith, digits_fit c.args.page (omega arith)), omega (arith, c.requires, c.put_run-named.ensures.next_is))

pub returns : goal.returns
unfolding text last_line
returns c =
    let end = c.put_byte.ensures in
    let run = c.put_run-named.ensures in
    let right = c.put_right-end.ensures in (
      puts_then (omega (arith, c.requires, run.next_is, right.1, end.next_is)) (puts_then (omega (arith, c.requires, run.next_is, right.1)) run right.0) end,
      omega (arith, run.next_is, right.1, end.next_is),
    )
