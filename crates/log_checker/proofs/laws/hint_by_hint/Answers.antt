use Rattle.log_checker.proofs.OneHint.{hints_go_on, no_hints_refute, unnamed_refute_nothing}
use Rattle.log_checker.proofs.laws.hint_by_hint.Goals as goal

pub returns-clause-on : goal.returns-clause-on
returns-clause-on c = hints_go_on

pub returns-clause-none : goal.returns-clause-none
returns-clause-none c = no_hints_refute

pub returns-clause-unnamed : goal.returns-clause-unnamed
returns-clause-unnamed c = unnamed_refute_nothing
