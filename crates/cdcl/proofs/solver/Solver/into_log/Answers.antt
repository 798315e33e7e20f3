use Rattle.std.proofs.Common.{subst}
use Rattle.cnf_base.specs.Known.{AreKnown}
use Rattle.cdcl.specs.SolverValue.{SolverValue}
use Rattle.cdcl.proofs.solver.Solver.into_log.Goals as goal

pub returns-clause-lines : goal.returns-clause-lines
returns-clause-lines c = subst (λ (s : SolverValue). AreKnown s.letters s.log.lines) c.self.view_is c.invariant.ensures.known_lines
