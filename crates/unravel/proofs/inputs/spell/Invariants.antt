use Rattle.std.proofs.Common.{◌≡◌, take}
use Rattle.clause_index.specs.Literals.{literals}
use Rattle.unravel.proofs.inputs.spell.Given as goal

abbrev pub invariant-places : goal.invariant-places
invariant-places l = l.clause.items ≡ take l.place (literals l.found)
