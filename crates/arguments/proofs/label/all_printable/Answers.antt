-- `arguments::label::all_printable` meets its contract: the chain tests each byte.
-- Assumes nothing.
use Rattle.std.proofs.Common.{rules, tests, ◌∙◌}
use Rattle.std.proofs.lemmas.Iterator.{YieldsList-from_slice}
use Rattle.std.proofs.lemmas.Iterator.Search.{all_from_yields_List}
use Rattle.rule.specs.Files.{printable}
use Rattle.theory.proofs.Tests.{list_all_is}
use Rattle.arguments.proofs.label.all_printable.Goals as goal

pub returns : goal.returns
returns c =
    all_from_yields_List printable _ _ _ c.all.ensures.ran (YieldsList-from_slice c.args.bytes.now cc) (λ x b q k. search (rules, tests))
    ∙ list_all_is printable _
