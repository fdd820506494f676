-- `rig_tally::lines::put_tally` meets its contract: its numbers, one behind the other.
-- Assumes nothing.
use Prim.Native.Nat.{◌≤◌}
use native.Mathlib.Omega.{arith}
use lib.ListN.{length}
use Rattle.rig_tally.proofs.Numbers.{puts_all}
use Rattle.rig_tally.proofs.lines.put_tally.Goals as goal

pub returns : goal.returns
returns c =
    let tally = c.args.tally in
    let le : c.put_asked.result ≤ length c.args.out.now =
    omega (
      arith,
      c.put_number_line-played.ensures.1,
      c.put_number_line-yes.ensures.1,
      c.put_number_line-changes.ensures.1,
      c.put_asked.ensures.1,
      c.requires.0,
    ) in
    puts_all tally.played tally.yes tally.changes c.args.n tally.asked le
    c.put_number_line-played.ensures.0
    c.put_number_line-yes.ensures.0
    c.put_number_line-changes.ensures.0
    c.put_asked.ensures.0
