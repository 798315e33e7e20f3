use Rattle.std.proofs.Common.{◌≡◌, ◌<◌, length, get_or, sym, ap, arith, ◌∙◌}
use Rattle.std.proofs.lemmas.List.{get_or_default}
use Rattle.cnf_base.proofs.RowEnds.{rows_len, is_place, row_is}
use Rattle.cnf_base.proofs.rows.Rows.row.Goals as goal

pub start-from-requires : goal.start-from-requires
start-from-requires g c =
    omega (arith, c.requires, ap length c.self.view_is, rows_len c.self.inside.items.items c.self.inside.ends.items)

pub index-requires : goal.index-requires
index-requires g c =
    omega (arith, c.requires, ap length c.self.view_is, rows_len c.self.inside.items.items c.self.inside.ends.items)

pub offset_bounds-deref-from : goal.offset_bounds-deref-from
offset_bounds-deref-from g c =
    let ends = c.self.inside.ends.items in
    let low : c.args.index < length ends = omega (arith, c.requires, ap length c.self.view_is, rows_len c.self.inside.items.items ends) in
    let place = is_place c.self.inside.items.items ends c.self.invariant c.args.index low in
    omega (arith, place.forward, place.inside, c.start-from.ensures, c.deref.ensures.len)

pub slice_bounds-result-count : goal.slice_bounds-result-count
slice_bounds-result-count g c =
    let ends = c.self.inside.ends.items in
    let low : c.args.index < length ends = omega (arith, c.requires, ap length c.self.view_is, rows_len c.self.inside.items.items ends) in
    let place = is_place c.self.inside.items.items ends c.self.invariant c.args.index low in
    let to : c.index.result.now ≡ get_or ends c.args.index 0 = c.index.ensures ∙ get_or_default ends c.args.index c.index.result.now 0 low in
    omega (arith, place.forward, c.start-from.ensures, to)

pub slice_bounds-result-start : goal.slice_bounds-result-start
slice_bounds-result-start g c = slice_bounds-result-count g c

pub slice_bounds-result-end : goal.slice_bounds-result-end
slice_bounds-result-end g c =
    let ends = c.self.inside.ends.items in
    let low : c.args.index < length ends = omega (arith, c.requires, ap length c.self.view_is, rows_len c.self.inside.items.items ends) in
    let place = is_place c.self.inside.items.items ends c.self.invariant c.args.index low in
    let to : c.index.result.now ≡ get_or ends c.args.index 0 = c.index.ensures ∙ get_or_default ends c.args.index c.index.result.now 0 low in
    omega (arith, place.inside, to, c.deref.ensures.len)

pub returns : goal.returns
returns g c =
    let items = c.self.inside.items.items in
    let ends = c.self.inside.ends.items in
    let low : c.args.index < length ends = omega (arith, c.requires, ap length c.self.view_is, rows_len items ends) in
    let to : c.index.result.now ≡ get_or ends c.args.index 0 = c.index.ensures ∙ get_or_default ends c.args.index c.index.result.now 0 low in
    rw (c.deref.ensures.value, c.start-from.ensures, to, ← c.self.view_is)
    (sym (row_is items ends c.self.invariant c.args.index low))
