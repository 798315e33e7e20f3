use Rattle.std.proofs.Common.{sym, subst}
use Rattle.requirement_document.specs.Entry.{IsFormulaCause}
use Rattle.requirement_document.proofs.Judging.{fault_is_wrong}
use Rattle.requirement_document.proofs.accepting.written.Goals as goal

pub returns-in-Refused-clause-err : goal.returns-in-Refused-clause-err
returns-in-Refused-clause-err c ds =
    let wrong = rw c.in-Refused.is at c.in_ok-table.ensures in
    subst (IsFormulaCause ds c.args.text.now) (sym c.cause_of.ensures) (fault_is_wrong ds c.args.text.now c.in-Refused.fault wrong)
