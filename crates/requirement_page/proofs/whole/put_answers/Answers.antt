use Rattle.std.proofs.Common.{◌++◌, ◌∙◌, ap₂, codes, length}
use Rattle.std.proofs.lemmas.Result.{on_ok_weaker}
use Rattle.requirement_document.specs.Values.{document_in}
use Rattle.requirement_report.specs.Text.{set_aside}
use Rattle.requirement_page.specs.Answers.{together_article}
use Rattle.requirement_page.specs.Places.{together_number, first_reply, first_check}
use Rattle.requirement_page.specs.Page.{conflict_articles, reply_articles, check_articles}
use Rattle.requirement_page.proofs.Pieces.{from, by, before}
use Rattle.requirement_page.proofs.whole.put_answers.Goals as goal

pub returns : goal.returns
returns c =
    let d = document_in c.args.document.now in
    let r = c.args.report.now in
    on_ok_weaker c.put_all_checks.result (λ e. (before (from c.args.out.now.items (codes "<h2>Answers</h2>\n") c.in_ok-extend_from_slice.ensures.items)
    (before (by (conflict_articles d r.cores.items 0 r.conflicts.items) (c.in_ok-put_conflicts.ensures ∙ ap₂ (λ bs cores.
    c.extend_from_slice.new.self.items ++ conflict_articles d cores 0 bs) c.deref.ensures.value c.deref-2.ensures.value))
    (before (by (together_article d c.args.limits.steps (together_number r) (length r.left.items) c.args.counts.met.all (set_aside d r) r.together)
    c.in_ok-put_left.ensures)
    (before (by (reply_articles d c.args.scope c.args.limits.steps (first_reply r) r.replies.items) c.in_ok-put_all_replies.ensures)
    (by (check_articles d (first_check c.args.scope r) r.checks.items) e))))).is) c.put_all_checks.ensures
