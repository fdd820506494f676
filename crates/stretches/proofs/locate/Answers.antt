-- `stretches::locate` meets its contract: the stretch starts where `starts` has it and is as long as the set's size says.
-- Assumes nothing.
use mathlib.Core.Path.{ap₂}
use Prim.Native.Nat.{◌+◌}
use native.Mathlib.Omega.{arith}
use lib.Pow.{pow_mono}
use Rattle.stretches.proofs.Stretches.{fits}
use Rattle.stretches.proofs.Starting.{cells_most}
use Rattle.stretches.proofs.locate.Goals as goal

pub bounds-starts-set : goal.bounds-starts-set
bounds-starts-set c = omega (arith, c.requires.1, pow_mono {j = 10} c.requires.0.few)

pub overflow_add-end : goal.overflow_add-end
overflow_add-end c =
    let few = c.requires.0.few in
    omega (arith, c.requires.0.is _ c.requires.1, c.length.ensures, fits _ _ few c.requires.1, cells_most _ few)

pub returns : goal.returns
returns c =
    let few = c.requires.0.few in
    let at = c.requires.0.is _ c.requires.1 in
    record { start_is = at; end_is = ap₂ ◌+◌ at c.length.ensures; fits = omega (arith, at, c.length.ensures, fits _ _ few c.requires.1) }
