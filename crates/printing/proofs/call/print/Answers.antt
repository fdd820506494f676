-- `printing::call::print` meets its contract: past the tests the pages are put into the bytes.
-- Assumes nothing.
use Rattle.printing.proofs.Sheets.{printable, print_accepted}
use Rattle.printing.proofs.call.print.Goals as goal

pub invariant_of-put_sheet : goal.invariant_of-put_sheet
invariant_of-put_sheet c =
    let a = c.args in
    record { printable = (printable a.n a.order.places a.cells.now a.used a.root.number a.bytes.now c.in_ok-test_print.ensures).0 }

pub put_sheet-requires : goal.put_sheet-requires
put_sheet-requires c =
    let a = c.args in
    (printable a.n a.order.places a.cells.now a.used a.root.number a.bytes.now c.in_ok-test_print.ensures).1

pub returns : goal.returns
returns c =
    let a = c.args in
    let (count, pages) = c.put_sheet.ensures in
    print_accepted a.n a.order.places a.cells.now a.used a.root.number a.bytes.now c.in_ok-test_print.ensures count pages
