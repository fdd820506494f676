-- `writing::call::write` meets its contract: past the tests the file is put into the bytes.
-- Assumes nothing.
use Rattle.writing.proofs.Written.{write_accepted, writable}
use Rattle.writing.proofs.call.write.Goals as goal

pub put_file-requires : goal.put_file-requires
put_file-requires c =
    let a = c.args in
    writable a.n a.order.places a.cells.now a.used a.root.number a.label.now a.bytes.now c.in_ok-test_write.ensures

pub returns : goal.returns
returns c =
    let a = c.args in
    write_accepted a.n a.order.places a.cells.now a.used a.root.number a.label.now a.bytes.now c.in_ok-test_write.ensures c.put_file.ensures
