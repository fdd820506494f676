-- `arguments::table::fit_rows` meets its contract: the chain tests each byte.
-- Assumes nothing.
use Rattle.std.proofs.Common.{rules, tests, ◌∙◌, ltb}
use Rattle.std.proofs.lemmas.Iterator.{YieldsList-from_slice}
use Rattle.std.proofs.lemmas.Iterator.Search.{all_from_yields_List}
use Rattle.rule.specs.Table.{fit_rows}
use Rattle.theory.proofs.Tests.{list_all_is}
use Rattle.arguments.proofs.table.fit_rows.Goals as goal

pub returns : goal.returns
unfolding fit_rows
returns c =
    all_from_yields_List (λ x. ltb x 2) _ _ _ c.all.ensures.ran (YieldsList-from_slice c.args.table.now cc) (λ x b q k. search (rules, tests))
    ∙ list_all_is _ _
