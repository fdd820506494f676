-- `parsing::line::flags_of` meets its contract: none of the powers passed is the number of rows.
-- Assumes nothing.
use mathlib.Core.Path.{refl, ◌∙◌, sym}
use native.Mathlib.Omega.{arith}
use borrow.Author.Rules.{rules}
use Rattle.parsing.proofs.FirstLine.{flags_found, flags_passed, flags-none}
use Rattle.parsing.proofs.line.flags_of.Goals as goal

pub loop-n-init : goal.loop-n-init
loop-n-init c = (omega arith, refl)

pub returns-then-rows-row_count : goal.returns-then-rows-row_count
returns-then-rows-row_count c =
    (flags_found c.loop-n.n _ (search rules) c.loop-n.invariant (c.if-rows-row_count.true ∙ c.row_count.ensures), c.loop-n.invariant.0)

pub loop-n-preserved : goal.loop-n-preserved
loop-n-preserved c =
    flags_passed c.loop-n.n _ (search rules) c.loop-n.invariant (λ e. c.if-rows-row_count.false (e ∙ sym c.row_count.ensures))

pub returns : goal.returns
returns c =
    (flags-none c.loop-n.n _ (omega arith) c.loop-n.invariant, omega arith)
