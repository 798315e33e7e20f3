use Rattle.std.proofs.lemmas.Result.{IfOk-weaker}
use Rattle.requirement_questions.specs.Settling.{IsMade}
use Rattle.requirement_questions.specs.Answer.{IsBecause}
use Rattle.requirement_questions.proofs.LeftOut.{all_because_of}
use Rattle.requirement_questions.proofs.leaving.all_because.Goals as goal

pub returns : goal.returns
returns c =
    let q = c.args.question.now in
    let ms = c.args.members.items in
    let r = c.args.refuted.value in
    IfOk-weaker c.because_of.result (λ b. IsMade ms r b.value) (λ b. IsBecause q b.value)
    (λ b made. all_because_of q ms r b.value c.nothing_satisfies.ensures c.requires.members made c.requires.refuted) c.because_of.ensures
