-- `writing::call::put_file` meets its contract: the bit map, n, the order, the label and the records, one behind the other.
-- Assumes nothing.
use native.Mathlib.Omega.{arith}
use lib.Seq.{length-take-le}
use Rattle.writing.proofs.Written.{file_parts, file_puts}
use Rattle.writing.proofs.call.put_file.Goals as goal

-- the parts of the file are together no longer than the bytes
pub put_byte-map-requires : goal.put_byte-map-requires
put_byte-map-requires c = omega (arith, file_parts)

pub put_byte-flags-requires : goal.put_byte-flags-requires
put_byte-flags-requires c = omega (arith, file_parts)

pub put_flags-named-requires : goal.put_flags-named-requires
put_flags-named-requires c =
    let a = c.args in
    let named = length-take-le a.n a.order.places (omega (arith, c.well_formed.1.0.1.1.0.1.0.1)) in
    (omega arith, omega (arith, file_parts))

pub put_label-labelled-requires : goal.put_label-labelled-requires
put_label-labelled-requires c = (c.requires.short, omega (arith, file_parts))

pub put_counted-requires : goal.put_counted-requires
put_counted-requires c = (c.requires.held, c.requires.flags, omega (arith, file_parts))

pub returns : goal.returns
returns c =
    let a = c.args in
    file_puts a.n a.order.places a.cells.now a.used a.root a.label.now
    c.requires.fits
    c.map_byte.ensures
    c.put_byte-map.ensures
    c.put_byte-flags.ensures
    c.put_flags-named.ensures
    c.put_label-labelled.ensures
    c.put_counted.ensures
