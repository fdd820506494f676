-- `paging::line::Sheet::put_page` meets its contract: the first line, those of records and the last one.
-- Assumes nothing.
use native.Mathlib.Omega.{arith}
use Rattle.rule.specs.Text.{text}
use Rattle.rule.specs.Sheet.{line_of}
use Rattle.paging.proofs.Put.{puts_page}
use Rattle.paging.proofs.line.Sheet.put_page.Goals as goal

pub returns : goal.returns
unfolding text
returns c =
    let p = c.put_run-records.ensures in
    let q = c.put_lines-last.ensures in
    let s = c.put_last.ensures in (
      puts_page (line_of c.args.self.now.cells.now c.args.self.now.used) c.args.before (omega (arith, c.requires.1, p.next_is, q.1, s.1)) (omega (arith, s.1)) p q.0
          s.0,
      omega (arith, p.next_is, q.1, s.1),
    )
