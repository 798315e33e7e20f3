use Rattle.std.proofs.Common.{ap, ◌∙◌}
use Rattle.std.specs.Prelude.{◌∷◌, ◌++◌, codes}
use Rattle.std.specs.List.{flat_map}
use Rattle.cert_text.specs.Text.{hint_text}
use Rattle.cert_text.specs.Reading.{literals_in, hints_in}
use Rattle.cert_text.proofs.Slices.{literals_are, hints_are}
use Rattle.cert_text.proofs.ItemLines.{literals_slice, hints_slice}
use Rattle.cert_text.proofs.item.line_in.Goals as goal

pub returns : goal.returns
returns c ls hs all_ls all_hs is =
    let end = c.literals_end-middle.ensures ls (32 ∷ (flat_map hint_text hs ++ codes "0")) all_ls is in (
      c.new-literals.ensures ∙ ap literals_in (literals_slice c.args.line.now ls hs c.literals_end-middle.result is end) ∙ literals_are ls all_ls,
      c.new-hints.ensures ∙ ap hints_in (hints_slice c.args.line.now ls hs c.literals_end-middle.result is end) ∙ hints_are hs all_hs,
    )
