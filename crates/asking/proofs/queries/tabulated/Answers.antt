-- `asking::queries::tabulated` meets its contract: all of the bytes are lent, or their first part.
-- Assumes nothing.
use borrow.Author.Rules.{rules}
use Rattle.asking.proofs.Part.{all_lent, first_lent}
use Rattle.asking.proofs.queries.tabulated.Goals as goal

pub returns-then-bytes-end : goal.returns-then-bytes-end
returns-then-bytes-end c =
    let a = c.args in
    let call = c.tabulate in
    let (t, b) = all_lent a.length a.bytes.now call.new.bytes (search rules) (search rules) call.ensures in
    record { tabulate = t; bytes_unchanged = b }

pub returns : goal.returns
returns c =
    let a = c.args in
    let call = c.tabulate-2 in
    let (t, b) = first_lent a.length a.bytes.now call.new.bytes (search rules) (search rules) call.ensures in
    record { tabulate = t; bytes_unchanged = b }
