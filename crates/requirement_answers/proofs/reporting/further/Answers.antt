use Rattle.std.proofs.Common.{◌∙◌, sym, subst}
use Rattle.std.specs.List.{All}
use Rattle.requirement_document.specs.Values.{document_in}
use Rattle.requirement_answers.specs.Inner.{IsAbout}
use Rattle.requirement_answers.proofs.Planned.{questions_about}
use Rattle.requirement_answers.proofs.reporting.further.Goals as goal

pub replies-requires-clause-about : goal.replies-requires-clause-about
replies-requires-clause-about g c κs within =
    let d = document_in c.args.document.now in
    subst (All (IsAbout d)) (sym (c.deref.ensures.value ∙ c.in_ok-asks.ensures)) (questions_about d c.args.scope c.args.left.now)
