use Rattle.enc_layout.proofs.Questions.{run_from, accepted_from, loop_from, empty_from, end_from, unpruned_from}
use Rattle.enc_layout.proofs.laws.assignment_runs.Goals as goal

pub returns-clause-run : goal.returns-clause-run
returns-clause-run c = run_from

pub returns-clause-accepted : goal.returns-clause-accepted
returns-clause-accepted c = accepted_from

pub returns-clause-looping : goal.returns-clause-looping
returns-clause-looping c = loop_from

pub returns-clause-empty : goal.returns-clause-empty
returns-clause-empty c = empty_from

pub returns-clause-ends : goal.returns-clause-ends
returns-clause-ends c = end_from

pub returns-clause-unpruned : goal.returns-clause-unpruned
returns-clause-unpruned c = unpruned_from
