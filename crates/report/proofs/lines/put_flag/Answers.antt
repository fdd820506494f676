-- `report::lines::put_flag` meets its contract: the line's parts, one behind the other.
-- Assumes nothing.
use Prim.Native.Nat.{◌+◌, ◌≤◌}
use native.Mathlib.Omega.{arith}
use Rattle.rule.specs.Text.{text}
use Rattle.report.proofs.Printed.{puts_flag_line}
use Rattle.report.proofs.lines.put_flag.Goals as goal

pub returns : goal.returns
unfolding text
returns c =
    let end = c.put_byte.ensures in
    let le : c.put_byte.result ≤ c.args.at + 17 =
    omega (arith, c.put_run-named.ensures.next_is, c.put_number-flag.ensures.1, c.put_number-counted.ensures.1, end.next_is) in (
      puts_flag_line c.args.v c.args.nodes (omega (arith, le, c.requires)) c.put_run-named.ensures c.put_number-flag.ensures.0 c.put_number-counted.ensures.0 end,
      le,
    )
