-- `encoding::parts::put_flags` meets its contract: the first n places are the run.
-- Assumes nothing.
use native.Mathlib.Nat.{sub-zero}
use native.Mathlib.Omega.{arith}
use Rattle.encoding.proofs.parts.put_flags.Goals as goal

pub slice_bounds-put_run-end : goal.slice_bounds-put_run-end
slice_bounds-put_run-end c =
    omega (arith, c.well_formed.1.1.1.0.1.1.0.1.0.1)

pub returns : goal.returns
returns c = rw sub-zero at c.put_run.ensures
