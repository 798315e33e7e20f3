use Rattle.enc_layout.proofs.Questions.{run_to, accepted_to, unpruned_to}
use Rattle.enc_layout.proofs.laws.run_assigns.Goals as goal

pub returns-clause-run : goal.returns-clause-run
returns-clause-run c = run_to

pub returns-clause-accepted : goal.returns-clause-accepted
returns-clause-accepted c = accepted_to

pub returns-clause-unpruned : goal.returns-clause-unpruned
returns-clause-unpruned c = unpruned_to
