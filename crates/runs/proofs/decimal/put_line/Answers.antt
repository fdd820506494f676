-- `runs::decimal::put_line` meets its contract: the word, the number and the line end, one behind the other.
-- Assumes nothing.
use native.Mathlib.Omega.{arith}
use Rattle.runs.proofs.Digits.{line_fits, puts_line, line_ends}
use Rattle.runs.proofs.decimal.put_line.Goals as goal

pub put_byte-requires : goal.put_byte-requires
put_byte-requires c =
    omega (arith, line_fits c.args.word.now c.args.x (omega arith) c.requires c.put_run-named.ensures c.put_number-numbered.ensures.0)

pub returns : goal.returns
returns c =
    let run = c.put_run-named.ensures in
    let digits = c.put_number-numbered.ensures.0 in
    let end = c.put_byte.ensures in (
      puts_line c.args.word.now c.args.x (omega arith) c.requires run digits end,
      line_ends c.args.word.now c.args.x (omega arith) c.requires run digits end,
    )
