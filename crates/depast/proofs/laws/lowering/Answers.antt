use Rattle.depast.proofs.Raising.{lowered}
use Rattle.depast.proofs.Lifted.{lowered_satisfies}
use Rattle.depast.proofs.laws.lowering.Goals as goal

pub returns-clause-lowered : goal.returns-clause-lowered
returns-clause-lowered c f u kind good is = lowered f u kind good is

pub returns-clause-satisfies : goal.returns-clause-satisfies
returns-clause-satisfies c f u t good l = lowered_satisfies f u t good l
