use Rattle.std.proofs.Common.{subst}
use Rattle.ltl_parser.specs.Text.{IsAccepted}
use Rattle.ltl_syntax.specs.Formula.{Letter, Name}
use Rattle.ltl_syntax.specs.Table.{tree_at}
use Rattle.formula_reading.specs.Reading.{HasFormulaFault}
use Rattle.requirement_document.proofs.Judging.{letter_if}
use Rattle.requirement_document.proofs.accepting.is_letter.Goals as goal

pub returns-in-Formula : goal.returns-in-Formula
returns-in-Formula c =
    let reading = rw c.in-Formula.is at c.in_ok-table.ensures in
    let tree = tree_at c.in-Formula.table c.in-Formula.root in
    letter_if c.args.name.now tree c.is_letter_of.result c.one_reading.ensures.one_formula (subst (λ t. IsAccepted t tree) c.as_bytes.ensures.value reading.1)
    c.is_letter_of.ensures

pub returns-in-Refused : goal.returns-in-Refused
returns-in-Refused c =
    let wrong = rw c.in-Refused.is at c.in_ok-table.ensures in
    let fault = c.in-Refused.field-0 in
    let own = subst (λ t. HasFormulaFault t fault) c.as_bytes.ensures.value wrong in
    (λ t. absurd (cc), λ l. absurd (c.one_reading.ensures.not_both c.args.name.now fault (Letter (Name c.args.name.now)) own l))
