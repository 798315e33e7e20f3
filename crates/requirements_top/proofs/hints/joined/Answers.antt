use Rattle.std.proofs.Common.{◌++◌, ◌∙◌, ap, append_assoc, codes}
use Rattle.requirements_top.proofs.hints.joined.Goals as goal

pub returns : goal.returns
returns c =
    let front = c.in_ok-text.ensures.items in
    let middle = c.in_ok-extend_from_slice.ensures.items in
    let all = c.in_ok-extend_from_slice-2.ensures.items in
    all ∙ ap (λ xs. xs ++ c.args.word.now) (middle ∙ ap (λ xs. xs ++ codes " in place of ") front)
    ∙ append_assoc c.args.here.now (codes " in place of ") c.args.word.now
