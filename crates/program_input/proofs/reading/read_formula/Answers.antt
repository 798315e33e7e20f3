use Rattle.std.proofs.Common.{sym, subst}
use Rattle.program_input.specs.Reading.{RefusesPart}
use Rattle.program_input.proofs.Refusing.{refuses_part}
use Rattle.program_input.proofs.reading.read_formula.Goals as goal

pub returns-in-Refused : goal.returns-in-Refused
returns-in-Refused c =
    let wrong = rw c.in-Refused.is at c.in_ok-table.ensures in
    subst (RefusesPart c.args.text.now) (sym c.refusal_of.ensures) (refuses_part c.args.text.now c.in-Refused.fault wrong)
