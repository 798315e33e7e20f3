use Rattle.derivation.proofs.Names.{named_of, named_grow, named_add}
use Rattle.derivation.proofs.laws.naming.Goals as goal

pub returns-clause-of : goal.returns-clause-of
returns-clause-of c = named_of

pub returns-clause-grow : goal.returns-clause-grow
returns-clause-grow c = named_grow

pub returns-clause-add : goal.returns-clause-add
returns-clause-add c = named_add
