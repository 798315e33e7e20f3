use Rattle.std.proofs.Common.{List, ℕ, subst}
use Rattle.program_input.proofs.Leaving.{taken_up_to}
use Rattle.requirements_top.specs.Said.{query_of}
use Rattle.requirements_top.specs.Answer.{IsOutput}
use Rattle.requirements_top.proofs.Leaving.{given_left}
use Rattle.requirements_top.proofs.answer.read_and_answer.Goals as goal

pub returns-clause-given : goal.returns-clause-given
returns-clause-given g c =
    let rest = g.S.Source.rest c.args.source.now in
    let after = g.S.Source.rest c.read_whole.new.source in
    let text = c.in_ok-bytes.bytes.items in
    let query = query_of c.args.query in
    let out = c.in_ok-output.output in
    let is = subst (λ (bytes : List ℕ). IsOutput query bytes out.status out.text.items) c.deref.ensures.value c.in_ok-output.ensures.lawful in
    given_left query text rest after out.status out.text.items c.in_ok-bytes.ensures.bytes is

pub returns-clause-left : goal.returns-clause-left
returns-clause-left g c =
    let rest = g.S.Source.rest c.args.source.now in
    let after = g.S.Source.rest c.read_whole.new.source in
    taken_up_to 4194304 c.in_ok-bytes.bytes.items rest after c.in_ok-bytes.ensures.bytes c.in_ok-bytes.ensures.bounded
