use Rattle.std.proofs.Common.{◌++◌, ◌∙◌, ap, flat_map}
use Rattle.requirement_document.specs.Values.{document_in}
use Rattle.requirement_report.specs.Letters.{use_in, use_line}
use Rattle.requirement_report.proofs.Slipped.{letters_shown}
use Rattle.requirement_report.proofs.letters.letters_text.Goals as goal

pub returns : goal.returns
returns c =
    let d = document_in c.args.document.now in
    letters_shown d c.in_ok-uses.uses.items c.new-out.result.items c.put_uses.new.out.items c.new-out.ensures.items
    (c.in_ok-put_uses.ensures ∙ ap (λ us. c.new-out.result.items ++ flat_map (λ u. use_line d (use_in u)) us) c.deref.ensures.value)
    c.in_ok-uses.ensures
