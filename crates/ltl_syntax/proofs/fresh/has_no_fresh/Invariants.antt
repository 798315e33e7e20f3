use Rattle.ltl_syntax.proofs.NoFresh.{AreNamedBefore}
use Rattle.ltl_syntax.proofs.fresh.has_no_fresh.Given as goal

abbrev pub invariant-places : goal.invariant-places
invariant-places l = AreNamedBefore l.table l.order.items l.place
