use Rattle.ltl_run.proofs.Traces.{sat_satisfied, sat_exact}
use Rattle.ltl_run.proofs.laws.satisfiable.Goals as goal

pub returns-clause-sound : goal.returns-clause-sound
returns-clause-sound c f kind limit k plain is = sat_satisfied f plain kind limit k is

pub returns-clause-exact : goal.returns-clause-exact
returns-clause-exact c f kind limit v plain le is = sat_exact f plain kind limit v le is
