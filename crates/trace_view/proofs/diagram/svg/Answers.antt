use Rattle.std.proofs.Common.{◌≡◌, ◌+◌, ◌∙◌, ap, length}
use Rattle.trace_view.specs.Diagram.{x_of}
use Rattle.trace_view.specs.Names.{widest}
use Rattle.trace_view.proofs.Drawing.{drawn}
use Rattle.trace_view.proofs.diagram.svg.Goals as goal

pub returns : goal.returns
returns c =
    let lanes : length c.rows-lanes.result.now ≡ length c.args.grid.now.rows = ap length c.rows-lanes.ensures in
    drawn c.args.grid.now c.new-svg.result.items c.add_opening.new.svg.items c.add_sheet.new.svg.items c.add_band_of.new.svg.items c.add_edges.new.svg.items
    c.add_numerals.new.svg.items c.add_lanes.new.svg.items c.add_arrow_of.new.svg.items c.extend_from_slice.new.self.items
    c.in_ok-names.names (length c.rows-lanes.result.now) (c.x_of-width.result + 16) (c.bottom.result + 36) (c.bottom-2.result + 36)
    c.states-2.result c.states-3.result
    (c.in_ok-names.ensures ∙ ap widest c.rows.ensures) lanes
    (ap (λ n. n + 16) (c.x_of-width.ensures ∙ ap (x_of c.in_ok-names.names) c.states.ensures)) (ap (λ n. n + 36) c.bottom.ensures)
    (ap (λ n. n + 36) c.bottom-2.ensures)
    c.states-2.ensures c.states-3.ensures c.new-svg.ensures.items
    c.in_ok-add_opening.ensures c.in_ok-add_sheet.ensures c.in_ok-add_band_of.ensures c.in_ok-add_edges.ensures c.in_ok-add_numerals.ensures
    c.in_ok-add_lanes.ensures
    c.in_ok-add_arrow_of.ensures c.in_ok-extend_from_slice.ensures.items
