use Rattle.system_check.proofs.AnswerLaws.{no_path, holds_on, fails_on, unknown_low, system_settles, answer_one}
use Rattle.system_check.proofs.laws.answers.Goals as goal

pub returns-clause-no_path : goal.returns-clause-no_path
returns-clause-no_path c start step goal limit k t is = no_path start step goal limit is k t

pub returns-clause-holds : goal.returns-clause-holds
returns-clause-holds c start step goal limit k log targets t is = holds_on start step goal limit is k log targets t

pub returns-clause-fails : goal.returns-clause-fails
returns-clause-fails c start step goal limit k t is w = fails_on start step goal limit is k t w.2

pub returns-clause-undecided : goal.returns-clause-undecided
returns-clause-undecided c start step goal limit d = unknown_low start step goal limit d

pub returns-clause-settled : goal.returns-clause-settled
returns-clause-settled c start step goal kind limit k = system_settles start step goal limit kind k

pub returns-clause-one : goal.returns-clause-one
returns-clause-one c start step goal limit a b = answer_one start step goal limit a b
