-- `reach::all_marked` meets its contract: it tests each record below the last.
-- Assumes nothing.
use Rattle.std.proofs.Common.{take, rules, tests}
use Rattle.std.proofs.lemmas.Iterator.{YieldsList-from_slice}
use Rattle.std.proofs.lemmas.Iterator.Search.{all_from_yields_List}
use Rattle.reach.proofs.all_marked.Goals as goal

pub returns : goal.returns
returns c =
    all_from_yields_List (λ marked. marked) _ _ c.all.result c.all.ensures.ran
    (YieldsList-from_slice (take c.args.last c.args.marks.now) cc)
    (λ x b q k. search (rules, tests))
