use Rattle.std.proofs.Common.{◌++◌, ◌∙◌, ap, flat_map, slice_get}
use Rattle.std.proofs.lemmas.Result.{on_ok_weaker}
use Rattle.requirement_document.specs.Values.{document_in}
use Rattle.requirement_report.specs.Flat.{flat}
use Rattle.requirement_report.specs.Subjects.{behaviour_sentence}
use Rattle.requirement_report.specs.Text.{keeps_word}
use Rattle.requirement_page.specs.Marks.{paragraph_if, behaviour_link, begun, ended}
use Rattle.requirement_page.specs.Checks.{keeps_sort, broken_item, behaviour_picture}
use Rattle.requirement_page.proofs.Pieces.{from, by, before, where_ok}
use Rattle.requirement_page.proofs.checks.put_check.Goals as goal

pub returns : goal.returns
returns c =
    let d = document_in c.args.document.now in
    let k = c.args.check.now in
    on_ok_weaker c.extend_from_slice.result (λ e. (before (from c.args.out.now.items (begun (keeps_sort k.breaks.items) c.args.number
    (keeps_word k.breaks.items) (behaviour_link d k.behaviour)) c.in_ok-put_check_begun.ensures)
    (before (by (paragraph_if (flat (behaviour_sentence d k.behaviour))) (c.in_ok-put_sentence.ensures ∙ ap (λ t.
    c.put_check_begun.new.out.items ++ paragraph_if (flat t)) c.behaviour_sentence.ensures))
    (before (by (flat_map (broken_item d) k.breaks.items) (c.in_ok-put_all_broken.ensures ∙ ap (λ bs. c.put_sentence.new.out.items ++ flat_map
    (broken_item d) bs) c.deref.ensures.value))
    (before (by (behaviour_picture (slice_get d.behaviours k.behaviour)) c.in_ok-put_behaviour_picture.ensures)
    (by (ended) e))))).is) (where_ok c.extend_from_slice.result c.put_behaviour_picture.new.out.items (ended) _ c.extend_from_slice.ensures.items)
