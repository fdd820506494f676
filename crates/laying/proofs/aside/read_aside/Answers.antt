-- `laying::aside::read_aside` meets its contract: each way is one of Held.antt.
-- Assumes nothing.
use mathlib.Core.Path.{sym, ap, ◌∙◌}
use mathlib.Core.Bool.{not}
use native.Mathlib.Omega.{arith}
use Rattle.cells.proofs.Fit.{fit_length_lem}
use Rattle.cursor.proofs.Stepped.{handed_on}
use Rattle.laying.proofs.Held.{reading_unfit, fields_stop, fields_go, left_over_lem, root_le, end_unfit, end_fit, first_lent, held_whole, held_room, held_zeros, most_held, most_laid, take_laid}
use Rattle.laying.proofs.aside.read_aside.Goals as goal

pub returns-then-not-fit_cells : goal.returns-then-not-fit_cells
returns-then-not-fit_cells c =
    record {
      most = most_held c.requires;
      comes = record { is = sym (reading_unfit _ _ c.fit_cells.ensures (ap not c.if-not-fit_cells.true)); stands = tt };
    }

pub returns-in_err-cursor : goal.returns-in_err-cursor
returns-in_err-cursor c =
    let fit = sym c.fit_cells.ensures ∙ c.if-not-fit_cells.false in
    record { most = most_held c.requires; comes = handed_on _ _ _ c.from_residual.ensures.1 (fields_stop _ _ fit c.in_err-cursor.ensures.is) }

pub returns-then-cursor-file : goal.returns-then-cursor-file
returns-then-cursor-file c =
    let fit = sym c.fit_cells.ensures ∙ c.if-not-fit_cells.false in
    record {
      most = most_held c.requires;
      comes = record { is = fields_go _ _ fit c.in_ok-cursor.ensures.is (sym (left_over_lem c.args.cells.now _ _ c.if-cursor-file.true)); stands = tt };
    }

pub root_of-root-requires : goal.root_of-root-requires
root_of-root-requires c =
    let fit = sym c.fit_cells.ensures ∙ c.if-not-fit_cells.false in
    omega (arith, c.in_ok-cursor.ensures.stands.held, fit_length_lem _ fit)

pub slice_bounds-lay_diagram-end : goal.slice_bounds-lay_diagram-end
slice_bounds-lay_diagram-end c =
    let fit = sym c.fit_cells.ensures ∙ c.if-not-fit_cells.false in
    omega (arith, fit_length_lem _ fit, most_held c.requires)

pub slice_bounds-lay_diagram-end-2 : goal.slice_bounds-lay_diagram-end-2
slice_bounds-lay_diagram-end-2 c = sym (first_lent _ (sym c.fit_cells.ensures ∙ c.if-not-fit_cells.false) c.requires)

pub lay_diagram-requires : goal.lay_diagram-requires
lay_diagram-requires c =
    let fit = sym c.fit_cells.ensures ∙ c.if-not-fit_cells.false in
    let cells = c.args.cells.now in (
      held_whole cells fit c.requires c.in_ok-cursor.ensures.stands,
      held_room cells fit c.requires,
      held_zeros cells fit c.requires,
      omega (arith, c.root_of-root.ensures, root_le c.bit_map.result c.in_ok-cursor.cursor.count),
    )

pub returns-then-not-lay_diagram : goal.returns-then-not-lay_diagram
returns-then-not-lay_diagram c =
    let fit = sym c.fit_cells.ensures ∙ c.if-not-fit_cells.false in
    let cells = c.args.cells.now in
    let lent = first_lent cells fit c.requires in
    let unfit = end_unfit cells _ _ c.if-cursor-file.false c.bit_map.ensures c.root_of-root.ensures lent c.lay_diagram.ensures (ap not c.if-not-lay_diagram.true) in
    record {
      most = most_laid cells fit c.requires _ c.lay_diagram.ensures.laid;
      comes = record { is = fields_go _ _ fit c.in_ok-cursor.ensures.is (sym unfit); stands = tt };
    }

pub returns : goal.returns
returns c =
    let fit = sym c.fit_cells.ensures ∙ c.if-not-fit_cells.false in
    let cells = c.args.cells.now in
    let lent = first_lent cells fit c.requires in
    let laid = c.lay_diagram.ensures.laid in
    let own = end_fit cells _ _ c.if-cursor-file.false c.bit_map.ensures c.root_of-root.ensures lent c.lay_diagram.ensures (ap not c.if-not-lay_diagram.false) in
    record {
      most = most_laid cells fit c.requires _ laid;
      comes = record {
        is = fields_go _ _ fit c.in_ok-cursor.ensures.is (sym own);
        stands = record { whole = c.in_ok-cursor.ensures.stands; lent = fit; laid = take_laid cells fit c.requires _ laid };
      };
    }
