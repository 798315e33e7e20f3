use Rattle.std.proofs.Common.{◌++◌, ◌∙◌, ap, codes}
use Rattle.std.specs.Option.{option_copied}
use Rattle.std.proofs.lemmas.Result.{on_ok_weaker}
use Rattle.requirement_document.specs.Values.{document_in}
use Rattle.requirement_report.specs.Text.{nevers_of}
use Rattle.requirement_page.specs.Marks.{begun, ended}
use Rattle.requirement_page.specs.Reasons.{member_links, members_described, claims}
use Rattle.requirement_page.proofs.Pieces.{from, by, before, where_ok}
use Rattle.requirement_page.proofs.reasons.put_conflict.Goals as goal

pub returns : goal.returns
returns c =
    let d = document_in c.args.document.now in
    let core = option_copied c.args.core in
    on_ok_weaker c.extend_from_slice.result (λ e. (before (from c.args.out.now.items (begun (codes "bad") c.args.number (codes "conflict") (member_links d
    c.args.because.now.members.items)) (c.in_ok-put_conflict_begun.ensures
    ∙ ap (λ ms. c.args.out.now.items ++ begun (codes "bad") c.args.number (codes "conflict") (member_links d ms)) c.deref.ensures.value))
    (before (by (members_described d core 0 c.args.because.now.members.items) (c.in_ok-put_each.ensures ∙ ap (λ ms.
    c.put_conflict_begun.new.out.items ++ members_described d core 0 ms) c.deref-2.ensures.value))
    (before (by (claims (nevers_of c.args.because.now)) c.in_ok-put_nevers.ensures)
    (by (ended) e)))).is) (where_ok c.extend_from_slice.result c.put_nevers.new.out.items (ended) _ c.extend_from_slice.ensures.items)
