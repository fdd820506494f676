-- `report::lines::put_report` meets its contract: its lines, one behind the other.
-- Assumes nothing.
use Prim.Native.Nat.{◌≤◌}
use native.Mathlib.Omega.{arith}
use lib.ListN.{length}
use Rattle.rule.specs.Text.{text}
use Rattle.report.specs.Report.{reported}
use Rattle.report.proofs.Printed.{puts_five}
use Rattle.report.proofs.lines.put_report.Goals as goal

pub returns : goal.returns
unfolding text reported
returns c =
    let last = rw c.yes_count.ensures at c.put_line.ensures.0 in
    let le : c.put_line.result ≤ length c.args.out.now =
    omega (arith, c.put_line.ensures.1, c.put_flags-asked.ensures.1, c.put_order-ordered.ensures.1, c.put_line-nodes.ensures.1, c.put_line-flags.ensures.1, c.requires.0, c.requires.3) in
    puts_five _ _ _ _ _ le
    c.put_line-flags.ensures.0
    c.put_line-nodes.ensures.0
    c.put_order-ordered.ensures.0
    c.put_flags-asked.ensures.0
    last
