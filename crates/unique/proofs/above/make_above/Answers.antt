-- `unique::above::make_above` meets its contract: each way is a case of the definition.
-- Assumes nothing.
use Rattle.unique.specs.Node.{above, none}
use Rattle.unique.proofs.above.make_above.Goals as goal

pub returns-in-None : goal.returns-in-None
returns-in-None c = (none c.in-None.is, c.requires.2)

pub returns-in-Some : goal.returns-in-Some
returns-in-Some c = let m = c.make.ensures in (above c.in-Some.is m.0, m.1)
