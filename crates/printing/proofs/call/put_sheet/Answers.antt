-- `printing::call::put_sheet` meets its contract: the pages passed are written.
-- Assumes nothing.
use mathlib.Core.Path.{◌≡◌, refl, ◌∙◌}
use mathlib.Core.List.{flat_map}
use Prim.Native.Nat.{◌+◌, ◌*◌, ◌≤◌}
use native.Mathlib.Omega.{arith}
use borrow.Author.Rules.{rules}
use lib.ListN.{length}
use Rattle.rule.specs.Bits.{from}
use Rattle.rule.specs.Sheet.{line_of, page_of, page_bytes, sheet_lines, sheet}
use Rattle.runs.proofs.Puts.{puts_none}
use Rattle.paging.proofs.Lines.{pages_le}
use Rattle.printing.proofs.Sheets.{puts_next}
use Rattle.printing.proofs.call.put_sheet.Goals as goal

pub loop-page-init : goal.loop-page-init
unfolding flat_map from
loop-page-init c = (omega arith, c.pages-count.ensures, refl, puts_none _ _, omega arith)

pub put_page-next-requires : goal.put_page-next-requires
put_page-next-requires c =
    let (le, count, long, _, next) = c.loop-page.invariant in
    let few = pages_le c.args.records.now.used c.args.records.now.printable.few in
    (omega arith, omega (arith, c.requires))

pub loop-page-preserved : goal.loop-page-preserved
loop-page-preserved c =
    let (le, count, long, pages, next) = c.loop-page.invariant in
    let place : c.put_page-next.result ≡ (c.loop-page.page + 1) * page_bytes = omega (arith, c.put_page-next.ensures.1) in
    let fits : c.put_page-next.result ≤ length c.args.bytes.now = omega (arith, c.requires) in
    (omega arith, count, search rules, puts_next (page_of (line_of c.args.records.now.cells.now c.args.records.now.used)) c.loop-page.page fits pages c.put_page-next.ensures.0, place)

pub returns : goal.returns
unfolding sheet sheet_lines
returns c =
    let (le, count, _, pages, next) = c.loop-page.invariant in
    let all : c.loop-page.page ≡ c.pages-count.result = omega arith in
    (count, rw (← all, ← next) (rw (all ∙ count) at pages))
