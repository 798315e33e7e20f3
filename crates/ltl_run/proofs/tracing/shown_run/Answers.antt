use Rattle.std.proofs.Common.{◌∙◌, ◌-◌, sym, length}
use Rattle.ltl_closure.specs.Entries.{AreEntries}
use Rattle.ltl_run.specs.States.{run_of}
use Rattle.ltl_run.specs.Shown.{HaveChosen}
use Rattle.ltl_run.specs.TraceOf.{AreShown}
use Rattle.ltl_run.proofs.Choosing.{names_long, collected_shown}
use Rattle.ltl_run.proofs.Collecting.{if_ok_more}
use Rattle.ltl_run.proofs.tracing.shown_run.Goals as goal

pub shown_states-requires : goal.shown_states-requires
shown_states-requires c =
    let are : AreEntries c.table-table.result.now.names c.args.closure.now.formula c.entries.result.now =
    rw c.table-table.ensures.names c.entries.ensures.closure in
    let long = names_long c.table-table.result.now.names c.args.closure.now.formula c.entries.result.now c.deref.result.now are
    (c.deref.ensures.value ∙ c.in_ok-names.ensures.names) in
    λ k d lt. (c.requires.fits k d lt).letters ∙ sym long

pub returns : goal.returns
returns c =
    let are : AreEntries c.table-table.result.now.names c.args.closure.now.formula c.entries.result.now =
    rw c.table-table.ensures.names c.entries.ensures.closure in
    if_ok_more {P = λ shown. HaveChosen c.deref.result.now c.args.states.now (length c.args.states.now) shown.items}
    {Q = λ shown. AreShown c.args.closure.now.formula (run_of c.args.closure.now.formula c.args.states.now) (length c.args.states.now - 1) shown.items}
    (λ shown h. collected_shown c.table-table.result.now.names c.args.closure.now.formula c.entries.result.now c.deref.result.now are
    (c.deref.ensures.value ∙ c.in_ok-names.ensures.names)
    c.letters.ensures.plain c.in_ok-names.ensures.small c.args.states.now c.requires.some shown.items h)
    c.shown_states.result c.shown_states.ensures
