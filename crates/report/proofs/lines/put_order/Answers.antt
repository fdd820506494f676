-- `report::lines::put_order` meets its contract: the word, the places and the line end, one behind the other.
-- Assumes nothing.
use Prim.Native.Nat.{◌+◌, ◌*◌, ◌≤◌}
use native.Mathlib.Omega.{arith}
use Rattle.rule.specs.Text.{text}
use Rattle.report.proofs.Printed.{puts_order}
use Rattle.report.proofs.lines.put_order.Goals as goal

pub returns : goal.returns
unfolding text
returns c =
    let end = c.put_byte.ensures in
    let le : c.put_byte.result ≤ c.args.at + (c.args.n * 6 + 6) =
    omega (arith, c.put_run-named.ensures.next_is, c.put_places-placed.ensures.1, end.next_is) in
    (puts_order _ (omega (arith, le, c.requires.1)) c.put_run-named.ensures c.put_places-placed.ensures.0 end, le)
