use Rattle.std.proofs.Common.{◌≡◌, ◌≤◌}
use Rattle.ltl_syntax.specs.Flat.{count_in}
use Rattle.ltl_syntax.specs.Cutting.{AreCut, marked_places}
use Rattle.ltl_syntax.proofs.replacing.cut.Given as goal

abbrev pub invariant-places : goal.invariant-places
invariant-places l = record {
  cut : AreCut l.order.items (marked_places l.order.items l.marks.items) l.place l.fn.nodes.items l.nodes.items;
  next : l.next ≡ count_in (marked_places l.order.items l.marks.items) 0 l.place;
  few : l.next ≤ l.place;
}
