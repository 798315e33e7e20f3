use Rattle.cert_text.proofs.Ended.{last_uses_are_last, ended_ascend, ended_are_one, ended_among_all}
use Rattle.cert_text.proofs.laws.deleting.Goals as goal

pub returns-clause-last : goal.returns-clause-last
returns-clause-last c = last_uses_are_last

pub returns-clause-ended : goal.returns-clause-ended
returns-clause-ended c = ended_ascend

pub returns-clause-one : goal.returns-clause-one
returns-clause-one c = ended_are_one

pub returns-clause-among : goal.returns-clause-among
returns-clause-among c = ended_among_all
