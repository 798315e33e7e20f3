use Rattle.std.proofs.Common.{◌<◌, length, subst, sym, arith}
use Rattle.cdcl_propagate.specs.Visit.{HaveSame}
use Rattle.cdcl_state.proofs.Distinct.{same_itself, same_swapped}
use Rattle.cdcl_state.proofs.store.bring.Goals as goal

pub returns-clause-same : goal.returns-clause-same
returns-clause-same c =
    let clause = c.args.clause.now.items in
    let found : c.latest-from.result < length clause = omega (arith, c.latest-from.ensures, c.deref.ensures.len) in
    subst (HaveSame clause) (sym c.swap.ensures.items) (same_swapped clause clause c.args.to c.latest-from.result c.requires.to found (same_itself clause))
