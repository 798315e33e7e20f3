use Rattle.enc_layout.proofs.Questions.{run_asked, accepted_asked, unpruned_asked}
use Rattle.enc_layout.proofs.laws.questions.Goals as goal

pub returns-clause-run : goal.returns-clause-run
returns-clause-run c = run_asked

pub returns-clause-accepted : goal.returns-clause-accepted
returns-clause-accepted c = accepted_asked

pub returns-clause-unpruned : goal.returns-clause-unpruned
returns-clause-unpruned c = unpruned_asked
