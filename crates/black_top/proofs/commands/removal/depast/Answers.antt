use Rattle.std.proofs.Common.{Some, None, refl}
use Rattle.black_top.specs.Depast.{IsPartAnswer, IsDepasted}
use Rattle.black_top.proofs.Showing.{shown_as}
use Rattle.black_top.proofs.commands.removal.depast.Goals as goal

pub returns-in-None : goal.returns-in-None
returns-in-None c =
    let input = c.args.input.now in
    shown_as (IsPartAnswer input None) (IsDepasted input) c.answer_part.result (λ a h. (input, None, (c.in-None.ensures, refl), h)) c.answer_part.ensures

pub returns-in-Some : goal.returns-in-Some
returns-in-Some c =
    let parts = c.in-Some.parts in
    shown_as (IsPartAnswer parts.formula.now (Some parts.second.now)) (IsDepasted c.args.input.now) c.answer_part-in-Some.result
    (λ a h. (parts.formula.now, Some parts.second.now, c.in-Some.ensures, h)) c.answer_part-in-Some.ensures
