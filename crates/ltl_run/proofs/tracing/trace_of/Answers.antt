use Rattle.std.proofs.Common.{◌≡◌, ◌-◌, sym, subst, length}
use Rattle.ltl_word.specs.declared.trace.Trace.{Trace}
use Rattle.ltl_word.specs.Trace.{IsTrace, IsOfKind}
use Rattle.ltl_word.specs.Holds.{Satisfies}
use Rattle.ltl_run.specs.States.{run_of}
use Rattle.ltl_run.specs.TraceOf.{GivesTrace, closed_by}
use Rattle.ltl_run.proofs.Closed.{shown_gives}
use Rattle.ltl_run.proofs.Closing.{run_satisfies}
use Rattle.ltl_run.proofs.Collecting.{if_ok_more}
use Rattle.ltl_run.proofs.tracing.trace_of.Goals as goal

pub returns-clause-gives : goal.returns-clause-gives
returns-clause-gives c =
    let f = c.args.closure.now.formula in
    let r = run_of c.args.closure.now.formula c.args.states.now in
    let given = shown_gives f r (length c.args.states.now - 1)
    c.args.closure.now.kind c.args.close c.in_ok-shown.shown.items c.requires.accepted c.in_ok-shown.ensures in
    let step : (t : Trace) → t ≡ closed_by c.args.close c.in_ok-shown.shown.items → GivesTrace f r (length c.args.states.now - 1) c.args.close t =
    λ t e. subst (GivesTrace f r (length c.args.states.now - 1) c.args.close) (sym e) given in
    if_ok_more step c.close_states.result c.close_states.ensures

pub returns-clause-satisfies : goal.returns-clause-satisfies
returns-clause-satisfies c =
    let f = c.args.closure.now.formula in
    let r = run_of c.args.closure.now.formula c.args.states.now in
    let given = shown_gives f r (length c.args.states.now - 1)
    c.args.closure.now.kind c.args.close c.in_ok-shown.shown.items c.requires.accepted c.in_ok-shown.ensures in
    let done = run_satisfies f c.args.closure.now.kind (length c.args.states.now - 1) r c.args.close _ c.requires.run c.requires.accepted given in
    let step : (t : Trace) → t ≡ closed_by c.args.close c.in_ok-shown.shown.items → IsTrace t × IsOfKind t c.args.closure.now.kind × Satisfies t f =
    λ t e. subst (λ u. IsTrace u × IsOfKind u c.args.closure.now.kind × Satisfies u f) (sym e) done in
    if_ok_more step c.close_states.result c.close_states.ensures
