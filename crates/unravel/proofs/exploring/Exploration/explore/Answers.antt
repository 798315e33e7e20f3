use Rattle.std.proofs.Common.{subst}
use Rattle.unravel.specs.Exploring.{IsLooked}
use Rattle.unravel.proofs.exploring.Exploration.explore.Goals as goal

pub invariant_of-result : goal.invariant_of-result
invariant_of-result c =
    let closure = c.self.inside.closure.now in
    (subst (IsLooked closure c.self.inside.depth c.look.new.inputs c.look.new.states.items) c.in-Ok-None.field-0-is c.in-Ok-None.ensures).1
