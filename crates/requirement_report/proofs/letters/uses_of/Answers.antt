use Rattle.std.proofs.Common.{◌∙◌, ap, map, flat_map}
use Rattle.std.proofs.lemmas.Result.{IfOk-weaker}
use Rattle.requirement_document.specs.Values.{item_in}
use Rattle.requirement_report.specs.Pictures.{ascending}
use Rattle.requirement_report.specs.Letters.{set_of, item_letters, use_in}
use Rattle.requirement_report.proofs.Using.{uses_are}
use Rattle.requirement_report.proofs.letters.uses_of.Goals as goal

pub returns : goal.returns
returns c =
    IfOk-weaker c.uses_among.result _ _
    (λ uses. uses_are c.args.document.now c.deref-3.result.now c.names.result.now (map use_in uses.items)
    (c.deref-3.ensures.value ∙ c.in_ok-sets.ensures ∙ ap (map (λ i. set_of (item_in i))) c.deref.ensures.value)
    (c.names.ensures.names ∙ c.in_ok-letters.ensures ∙ ap (λ is. ascending (flat_map (λ i. item_letters (item_in i)) is)) c.deref-2.ensures.value))
    c.uses_among.ensures
