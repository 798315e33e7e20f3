use Rattle.std.proofs.Common.{◌≡◌, ◌∷◌, ◌+◌, ◌-◌, length, take, drop, length-drop, ap, ◌∙◌, sym, arith}
use Rattle.std.proofs.lemmas.List.{take_all}
use Rattle.past_monitor.specs.Text.{lines_of}
use Rattle.past_monitor.proofs.Lines.{first_of, only_line}
use Rattle.past_monitor.proofs.text.first_line.Goals as goal

pub returns-in-Some-clause-lines : goal.returns-in-Some-clause-lines
returns-in-Some-clause-lines c =
    let text = c.args.text.now in
    let end = c.in-Some.end in
    let found = c.in-Some.ensures in
    let first = first_of text end found.0.high found.1 (λ j less. found.0.before j (omega arith) less) in
    let whole : drop (end + 1) text ≡ take (length text - (end + 1)) (drop (end + 1) text) =
    sym (take_all (length text - (end + 1)) (drop (end + 1) text) (omega (arith, length-drop (end + 1) text))) in
    first ∙ ap (λ xs. take end text ∷ lines_of xs) whole

pub returns-in-None-clause-lines : goal.returns-in-None-clause-lines
returns-in-None-clause-lines c = only_line c.args.text.now (λ j less. c.in-None.ensures j (omega arith) less)
