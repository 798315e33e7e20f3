use Rattle.derivation.proofs.Lines.{steps_follow, hint_earlier, named_steps}
use Rattle.derivation.proofs.laws.following.Goals as goal

pub returns-clause-follow : goal.returns-clause-follow
returns-clause-follow c = steps_follow

pub returns-clause-earlier : goal.returns-clause-earlier
returns-clause-earlier c = hint_earlier

pub returns-clause-named : goal.returns-clause-named
returns-clause-named c = named_steps
