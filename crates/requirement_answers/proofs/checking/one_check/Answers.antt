use Rattle.requirement_document.specs.Values.{document_in}
use Rattle.requirement_answers.specs.Checks.{trace_of}
use Rattle.requirement_answers.specs.Inner.{IsRefusedFor}
use Rattle.requirement_answers.proofs.Checked.{findings_more, refused_for, passed_on}
use Rattle.requirement_answers.proofs.checking.one_check.Goals as goal

pub given-preserved : goal.given-preserved
given-preserved c =
    let d = document_in c.args.document.now in
    record {
      so_far = findings_more d (trace_of d c.args.behaviour)
          c.args.given.now c.given.k 0 c.given.breaks.items c.look.new.breaks.items c.given-test.true c.given.invariant.so_far c.in_ok-look.ensures.found;
    }

pub returns-in_err-look-clause-refused : goal.returns-in_err-look-clause-refused
returns-in_err-look-clause-refused c =
    let d = document_in c.args.document.now in
    let e = c.in_err-look.field-0.0 in
    passed_on (IsRefusedFor d c.args.behaviour c.args.given.now) e c.from_residual.result
    (refused_for d c.args.behaviour c.given.k 0 c.args.given.now e c.given-test.true c.in_err-look.ensures.refused) c.from_residual.ensures
