-- `levels::level::level_of` meets its contract: it is the first place that names the flag, or the number of flags.
-- Assumes nothing.
use Rattle.std.proofs.Common.{◌∙◌, eqb, arith, rules, refl, get_or}
use Rattle.std.proofs.lemmas.Bool.Decides.{nat_tests}
use Rattle.std.proofs.lemmas.Iterator.{YieldsList-from_range}
use Rattle.std.proofs.lemmas.Iterator.Search.{find_from_yields_List}
use Rattle.levels.proofs.First.{level_found}
use Rattle.levels.proofs.level.level_of.Goals as goal

pub returns : goal.returns
returns c =
    c.unwrap_or.ensures
    ∙ level_found c.args.order.places c.args.n c.args.v c.find.result (search rules)
    (find_from_yields_List (λ i. eqb (get_or c.args.order.places i 0) c.args.v) _ _ c.find.result c.find.ensures.ran
    (YieldsList-from_range 0 c.args.n c.args.n refl (omega arith))
    (λ x b q k. (search rules, grind (arith, nat_tests))))
