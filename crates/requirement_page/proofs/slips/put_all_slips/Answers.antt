use Rattle.std.proofs.Common.{◌++◌, ◌∙◌, ap, map}
use Rattle.std.proofs.lemmas.Result.{on_ok_weaker}
use Rattle.requirement_document.specs.Values.{document_in}
use Rattle.requirement_report.specs.Slips.{slip_in}
use Rattle.requirement_page.specs.Slips.{slip_list}
use Rattle.requirement_page.proofs.slips.put_all_slips.Goals as goal

pub returns : goal.returns
returns c =
    let d = document_in c.args.document.now in
    on_ok_weaker c.put_slip_list.result (λ e. e ∙ ap (λ ss. c.args.out.now.items ++ slip_list d ss) (ap (map slip_in) c.deref.ensures.value ∙
    c.in_ok-slips.ensures)) c.put_slip_list.ensures
