use Rattle.std.proofs.Common.{◌≡◌, [], ◌∷◌, ◌++◌, take}
use Rattle.clause_index.specs.Literals.{literals}
use Rattle.clause_index.proofs.appending.push.Given as goal

abbrev pub invariant-places : goal.invariant-places
invariant-places l = l.list ≡ l.fn.list ++ take l.place (literals l.clause) ∷ []
