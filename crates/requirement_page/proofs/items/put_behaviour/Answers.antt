use Rattle.std.proofs.Common.{◌+◌, ◌++◌, ◌∙◌, ap, length, codes}
use Rattle.std.proofs.lemmas.Result.{on_ok_weaker}
use Rattle.requirement_document.specs.Values.{document_in}
use Rattle.requirement_report.specs.Flat.{flat}
use Rattle.requirement_report.specs.Subjects.{behaviour_name, behaviour_sentence}
use Rattle.requirement_page.specs.Marks.{paragraph_if, ended}
use Rattle.requirement_page.specs.Items.{item_begun, notes, behaviour_notes}
use Rattle.requirement_page.proofs.Pieces.{from, by, before, where_ok}
use Rattle.requirement_page.proofs.items.put_behaviour.Goals as goal

pub returns : goal.returns
returns c =
    let d = document_in c.args.document.now in
    on_ok_weaker c.extend_from_slice.result (λ e. (before (from c.args.out.now.items (item_begun (length d.items + c.args.number + 1) (codes "behaviour")
    (behaviour_name d c.args.number)) c.in_ok-put_named_behaviour.ensures)
    (before (by (paragraph_if (flat (behaviour_sentence d c.args.number))) (c.in_ok-put_sentence.ensures ∙ ap (λ t.
    c.put_named_behaviour.new.out.items ++ paragraph_if (flat t)) c.behaviour_sentence.ensures))
    (before (by (notes (behaviour_notes c.args.scope c.args.report.now c.args.number)) c.in_ok-put_behaviour_notes.ensures)
    (by (ended) e)))).is) (where_ok c.extend_from_slice.result c.put_behaviour_notes.new.out.items (ended) _ c.extend_from_slice.ensures.items)
