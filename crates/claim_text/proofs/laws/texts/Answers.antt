use Rattle.claim_text.proofs.Faults.{texts_say_one, others_have_faults, texts_have_none, faults_are_one, written_is_text}
use Rattle.claim_text.proofs.laws.texts.Goals as goal

pub returns-clause-one : goal.returns-clause-one
returns-clause-one c = texts_say_one

pub returns-clause-other : goal.returns-clause-other
returns-clause-other c = others_have_faults

pub returns-clause-none : goal.returns-clause-none
returns-clause-none c = texts_have_none

pub returns-clause-fault : goal.returns-clause-fault
returns-clause-fault c = faults_are_one

pub returns-clause-written : goal.returns-clause-written
returns-clause-written c = written_is_text
