use Rattle.std.proofs.Common.{◌+◌, sym, subst}
use Rattle.ltl_closure.specs.Run.{IsRun}
use Rattle.ltl_run.proofs.Collecting.{if_ok_more}
use Rattle.cdcl.specs.SolverValue.{value_of}
use Rattle.enc_layout.specs.Assigned.{states_of}
use Rattle.unravel.specs.Values.{AreRead}
use Rattle.unravel.proofs.Reading.{read_run, read_rule, read_trace}
use Rattle.unravel.proofs.showing.shown_trace.Goals as goal

pub trace_of-requires-clause-run : goal.trace_of-requires-clause-run
trace_of-requires-clause-run c =
    let f = c.args.closure.now.formula in
    let kind = c.args.closure.now.kind in
    let v = value_of c.args.solver.now in
    let read : AreRead f kind v (c.args.depth + 1) c.deref.result.now =
    subst (AreRead f kind v (c.args.depth + 1)) (sym c.deref.ensures.value) c.in_ok-states.ensures in
    let run : IsRun f c.args.depth (states_of f kind v) = c.requires.showing.run in
    read_run f kind v c.args.depth c.deref.result.now read run

pub trace_of-requires-clause-accepted : goal.trace_of-requires-clause-accepted
trace_of-requires-clause-accepted c =
    let f = c.args.closure.now.formula in
    let kind = c.args.closure.now.kind in
    let v = value_of c.args.solver.now in
    let read : AreRead f kind v (c.args.depth + 1) c.deref.result.now =
    subst (AreRead f kind v (c.args.depth + 1)) (sym c.deref.ensures.value) c.in_ok-states.ensures in
    let run : IsRun f c.args.depth (states_of f kind v) = c.requires.showing.run in
    read_rule f kind v c.args.depth c.deref.result.now read run c.args.close c.requires.showing.rule

pub returns-clause-run : goal.returns-clause-run
returns-clause-run c =
    let f = c.args.closure.now.formula in
    let kind = c.args.closure.now.kind in
    let v = value_of c.args.solver.now in
    let read : AreRead f kind v (c.args.depth + 1) c.deref.result.now =
    subst (AreRead f kind v (c.args.depth + 1)) (sym c.deref.ensures.value) c.in_ok-states.ensures in
    let run : IsRun f c.args.depth (states_of f kind v) = c.requires.showing.run in
    if_ok_more (read_trace f kind v c.args.depth c.deref.result.now read run c.args.close c.requires.showing.rule) c.trace_of.result c.trace_of.ensures.gives
