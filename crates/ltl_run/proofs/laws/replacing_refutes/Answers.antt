use Rattle.ltl_run.proofs.Extending.{refuted_by_rep}
use Rattle.ltl_run.proofs.Originals.{table_given}
use Rattle.ltl_run.proofs.laws.replacing_refutes.Goals as goal

pub returns-clause-refutes : goal.returns-clause-refutes
returns-clause-refutes c f P kind given none = refuted_by_rep f P kind given.0 given.1 none

pub returns-clause-trees : goal.returns-clause-trees
returns-clause-trees c t root is lt none = table_given t is root lt none
