use Rattle.requirement_certificate.proofs.Formulas.{report_has}
use Rattle.requirement_certificate.proofs.laws.reports_have_formulas.Goals as goal

pub returns : goal.returns
returns c = report_has
