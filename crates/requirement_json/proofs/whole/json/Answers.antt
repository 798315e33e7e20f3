use Rattle.std.proofs.Common.{◌≡◌, ◌++◌, ◌∙◌, ap, codes}
use Rattle.requirement_document.specs.Values.{document_in}
use Rattle.serde_json.specs.View.{view}
use Rattle.serde_json.specs.Written.{has_float, compact_text}
use Rattle.requirement_json.specs.Whole.{json_of}
use Rattle.requirement_json.proofs.PlainAnswers.{report_plain}
use Rattle.requirement_json.proofs.whole.json.Goals as goal

pub returns : goal.returns
returns c =
    let d = document_in c.args.document.now in
    let is : view c.in_ok-value.value ≡ json_of d c.args.report.now c.args.limits.steps = c.in_ok-value.ensures in
    let text = c.in_ok-text.ensures.text (ap has_float is ∙ report_plain d c.args.report.now c.args.limits.steps) ∙ ap compact_text is in
    c.in_ok-extend_from_slice.ensures.items ∙ ap (λ t. t ++ codes "\n") text
