use Rattle.cert_text.proofs.Faults.{texts_say_one, faults_are_one, texts_have_none, others_have_one}
use Rattle.cert_text.proofs.Slices.{in_text}
use Rattle.cert_text.proofs.laws.texts.Goals as goal

pub returns-clause-one : goal.returns-clause-one
returns-clause-one c = texts_say_one

pub returns-clause-found : goal.returns-clause-found
returns-clause-found c = in_text

pub returns-clause-fault : goal.returns-clause-fault
returns-clause-fault c = faults_are_one

pub returns-clause-none : goal.returns-clause-none
returns-clause-none c = texts_have_none

pub returns-clause-other : goal.returns-clause-other
returns-clause-other c = others_have_one
