-- `solving::solve` meets its contract: the stretch is folded first, and the flag is chosen with its codes.
-- Assumes nothing.
use native.Mathlib.Omega.{arith}
use Rattle.costing.proofs.Ready.{ready_small}
use Rattle.solving.proofs.solve.Goals as goal

pub bounds-least-set : goal.bounds-least-set
bounds-least-set c = omega (arith, ready_small c.requires.0)

pub bounds-first-set : goal.bounds-first-set
bounds-first-set c = omega (arith, ready_small c.requires.0)
