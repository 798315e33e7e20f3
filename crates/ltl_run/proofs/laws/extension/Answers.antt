use Rattle.ltl_run.proofs.Extending.{trace_extends, extension_is_trace, extension_is_of_kind, extension_agrees}
use Rattle.ltl_run.proofs.laws.extension.Goals as goal

pub returns-clause-there : goal.returns-clause-there
returns-clause-there c f P t given good =
    let w = trace_extends f P t given.1 good in
    (w.0, extension_is_trace f P t w.0 w.1 good, extension_is_of_kind f P t w.0 w.1, w.1)

pub returns-clause-agree : goal.returns-clause-agree
returns-clause-agree c f P t u i given x at = extension_agrees f P t u x given.0 i at
