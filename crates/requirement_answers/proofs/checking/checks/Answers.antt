use Rattle.requirement_document.specs.Values.{document_in}
use Rattle.requirement_answers.specs.Reports.{IsRefusedAmong}
use Rattle.requirement_answers.proofs.Checked.{checks_more, refused_among, passed_on}
use Rattle.requirement_answers.proofs.checking.checks.Goals as goal

pub behaviours-preserved : goal.behaviours-preserved
behaviours-preserved c = record {
  so_far = checks_more (document_in c.args.document.now) c.args.given.now c.args.behaviours.now c.behaviours.k 0 c.behaviours.found.items c.push.new.self.items
      c.in_ok-checked.checked c.behaviours-test.true c.behaviours.invariant.so_far
      c.in_ok-checked.ensures.check c.in_ok-push.ensures.items;
}

pub returns-in_err-checked-clause-refused : goal.returns-in_err-checked-clause-refused
returns-in_err-checked-clause-refused c =
    let d = document_in c.args.document.now in
    let e = c.in_err-checked.field-0.0 in
    passed_on (IsRefusedAmong d c.args.behaviours.now c.args.given.now) e c.from_residual-in_err-checked.result
    (refused_among d c.behaviours.k 0 c.args.behaviours.now c.args.given.now e c.behaviours-test.true c.in_err-checked.ensures.refused)
    c.from_residual-in_err-checked.ensures
