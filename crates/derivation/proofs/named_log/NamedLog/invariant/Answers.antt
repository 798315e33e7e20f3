use Rattle.std.proofs.Common.{subst}
use Rattle.derivation.specs.Steps.{IsDerivation}
use Rattle.derivation.proofs.Lines.{named_steps}
use Rattle.derivation.proofs.named_log.NamedLog.invariant.Goals as goal

pub returns : goal.returns
returns c =
    let (list, are) = c.self.invariant in
    subst IsDerivation c.self.view_is (list, named_steps list c.self.inside.log c.self.inside.names.items are c.invariant.ensures)
