use Rattle.demand.proofs.StateRuns.{states_run, inputs_run, states_grow, row_read}
use Rattle.demand.proofs.laws.states_run.Goals as goal

pub returns-clause-run : goal.returns-clause-run
returns-clause-run c f kind d k v = states_run f kind v d k

pub returns-clause-inputs : goal.returns-clause-inputs
returns-clause-inputs c = inputs_run

pub returns-clause-begin : goal.returns-clause-begin
returns-clause-begin c f kind inputs all = all

pub returns-clause-grow : goal.returns-clause-grow
returns-clause-grow c = states_grow

pub returns-clause-rows : goal.returns-clause-rows
returns-clause-rows c f kind d i v le h = row_read f kind d i v le h
