-- `parsing::line::line_end` meets its contract: the place is that of the first byte that ends a line, or the length.
-- Assumes nothing.
use Rattle.std.proofs.Common.{rules}
use Rattle.std.proofs.iter.runs.Made.{chains}
use Rattle.parsing.proofs.FirstLine.{FirstEnd, line_found}
use Rattle.parsing.proofs.line.line_end.Goals as goal

pub returns : goal.returns
returns c =
    let input = c.args.input.now in
    let found : FirstEnd input c.position.result = search (rules, chains) in
    rw c.unwrap_or.ensures (line_found input c.position.result found)
