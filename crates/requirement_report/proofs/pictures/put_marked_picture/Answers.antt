use Rattle.std.proofs.Common.{◌≡◌, ◌∷◌, [], ◌++◌, ◌∙◌, ap}
use Rattle.std.proofs.lemmas.Result.{on_ok_weaker}
use Rattle.requirement_report.specs.Pictures.{picture_with, letters_in, mark}
use Rattle.requirement_report.proofs.pictures.put_marked_picture.Goals as goal

pub returns : goal.returns
returns c =
    let t = c.args.trace.now in
    let names : c.names.result.now ≡ letters_in t = c.names.ensures.names ∙ c.in_ok-letters.ensures in
    let letters : c.deref.result.now ≡ letters_in t ++ mark ∷ [] =
    c.deref.ensures.value ∙ c.in_ok-put_mark.ensures
    ∙ ap (λ ls. ls ++ mark ∷ []) (c.in_ok-put_names.ensures ∙ ap (λ ls. ls ++ c.names.result.now) c.new-names.ensures.items ∙ names) in
    on_ok_weaker c.put_rows.result
    (λ e. e ∙ ap (λ ls. c.args.out.now.items ++ picture_with c.in_ok-marked.marked ls) letters
    ∙ ap (λ m. c.args.out.now.items ++ picture_with m (letters_in t ++ mark ∷ [])) c.in_ok-marked.ensures)
    c.put_rows.ensures
