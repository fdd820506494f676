-- `fields::all::read_fields` meets its contract: each field leads on from the one before it.
-- Assumes nothing.
use Rattle.fields.specs.Fields.{fields_read}
use Rattle.cursor.proofs.Stepped.{stays, goes_on, handed_on}
use Rattle.fields.proofs.all.read_fields.Goals as goal

pub returns-in_err-flags : goal.returns-in_err-flags
unfolding fields_read
returns-in_err-flags c =
    let flags = goes_on _ c.read_map-start.ensures.is c.in_err-flags.ensures.is in
    handed_on _ _ _ c.from_residual.ensures.1 (rw (← c.bit_map-map.ensures) (stays _ (stays _ (stays _ flags))))

pub returns-in_err-order : goal.returns-in_err-order
unfolding fields_read
returns-in_err-order c =
    let flags = goes_on _ c.read_map-start.ensures.is c.in_ok-flags.ensures.is in
    handed_on _ _ _ c.from_residual-in_err-order.ensures.1 (rw (← c.bit_map-map.ensures) (stays _ (stays _ (goes_on _ flags c.in_err-order.ensures.is))))

pub returns-in_err-label : goal.returns-in_err-label
unfolding fields_read
returns-in_err-label c =
    let flags = goes_on _ c.read_map-start.ensures.is c.in_ok-flags.ensures.is in
    let order = goes_on _ flags c.in_ok-order.ensures.is in
    handed_on _ _ _ c.from_residual-in_err-label.ensures.1 (rw (← c.bit_map-map.ensures) (stays _ (goes_on _ order c.in_err-label.ensures.is)))

pub returns : goal.returns
unfolding fields_read
returns c =
    let flags = goes_on _ c.read_map-start.ensures.is c.in_ok-flags.ensures.is in
    let order = goes_on _ flags c.in_ok-order.ensures.is in
    let label = goes_on _ order c.in_ok-label.ensures.is in
    record { is = rw (← c.bit_map-map.ensures) (goes_on _ label c.read_records.ensures.is); stands = c.read_records.ensures.stands }
