use Rattle.std.proofs.Common.{subst}
use Rattle.ltl_word.specs.Trace.{IsTrace}
use Rattle.report.specs.Texts.{ReadsBack}
use Rattle.unravel.specs.Decision.{IsModel}
use Rattle.refute_top.specs.Answer.{sat, undecided}
use Rattle.refute_top.specs.Refuting.{IsFound, satisfiable, open_yet}
use Rattle.refute_top.proofs.Showing.{shown, shown_where}
use Rattle.refute_top.proofs.turns.take_turns.Goals as goal

pub returns-in-Possible-clause-found : goal.returns-in-Possible-clause-found
returns-in-Possible-clause-found g c =
    let value = c.args.closure.now in
    let t = c.in-Possible.trace in
    let model : IsModel value.formula value.kind t =
    subst (λ x. IsModel x.formula x.kind t) c.turns.invariant.same (rw c.in-Possible.is at c.in_ok-trace.ensures) in
    shown_where (IsFound value.kind c.args.options.cert value.formula) (IsTrace t → ReadsBack t) (sat t) c.sat.result
    (λ reads. satisfiable t model (reads model.0)) c.sat.ensures.reads c.sat.ensures.shows

pub returns-clause-found : goal.returns-clause-found
returns-clause-found g c =
    shown (IsFound c.args.closure.now.kind c.args.options.cert c.args.closure.now.formula) undecided c.undecided.result open_yet c.undecided.ensures
