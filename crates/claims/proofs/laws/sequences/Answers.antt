use Rattle.claims.proofs.Sequences.{runs_are_sequences, runs_unroll, runs_end}
use Rattle.claims.proofs.laws.sequences.Goals as goal

pub returns-clause-linked : goal.returns-clause-linked
returns-clause-linked c = runs_are_sequences

pub returns-clause-ending : goal.returns-clause-ending
returns-clause-ending c = runs_end

pub returns-clause-unrolled : goal.returns-clause-unrolled
returns-clause-unrolled c = runs_unroll
