-- `parsing::line::all_digits` meets its contract.
-- Assumes nothing.
use Rattle.std.proofs.Common.{rules}
use Rattle.std.proofs.iter.runs.Made.{chains}
use Rattle.rule.specs.Listing.{is_digit}
use Rattle.parsing.proofs.Characters.{each_byte}
use Rattle.parsing.proofs.line.all_digits.Goals as goal

pub returns : goal.returns
returns c = each_byte is_digit c.args.line.now c.all.result (search (rules, chains)) (search (rules, chains))
