-- `cells::rest_clear` meets its contract: it tests each cell past the records.
-- Assumes nothing.
use Rattle.std.proofs.Common.{◌*◌, ◌∙◌, drop, eqb, arith, rules}
use Rattle.std.proofs.lemmas.Bool.Decides.{nat_tests}
use Rattle.std.proofs.lemmas.Iterator.{YieldsList-from_slice}
use Rattle.std.proofs.lemmas.Iterator.Adapters.{YieldsList-from_skip}
use Rattle.std.proofs.lemmas.Iterator.Search.{all_from_yields_List}
use Rattle.rule.specs.Sound.{rest_clear}
use Rattle.theory.proofs.Tests.{list_all_is}
use Rattle.cells.proofs.rest_clear.Goals as goal

pub returns : goal.returns
unfolding rest_clear
returns c =
    all_from_yields_List (eqb 0) _ _ c.all.result c.all.ensures.ran
    (YieldsList-from_skip (c.args.k * 3) (YieldsList-from_slice c.args.cells.now cc) c.skip.ensures.count)
    (λ x b q k. (search rules, grind (arith, nat_tests)))
    ∙ list_all_is (eqb 0) (drop (c.args.k * 3) c.args.cells.now)
