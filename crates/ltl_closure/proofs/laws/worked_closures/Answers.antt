use Rattle.std.proofs.Common.{refl}
use Rattle.ltl_closure.proofs.laws.worked_closures.Goals as goal

pub returns-clause-forms : goal.returns-clause-forms
returns-clause-forms c = record { some = refl; every = refl; once = refl; times = refl }

pub returns-clause-closures : goal.returns-clause-closures
returns-clause-closures c = record { constant = refl; weak_next = refl; literals = refl; always_eventually = refl; nested = refl; times = refl }

pub returns-clause-bounds : goal.returns-clause-bounds
returns-clause-bounds c = record { infinite = refl; finite = refl; letter = refl }
