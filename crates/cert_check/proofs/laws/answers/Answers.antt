use Rattle.cert_check.proofs.Answers.{answers_are_one, all_good}
use Rattle.cert_check.proofs.laws.answers.Goals as goal

pub returns-clause-one : goal.returns-clause-one
returns-clause-one c = answers_are_one

pub returns-clause-good : goal.returns-clause-good
returns-clause-good c = all_good
