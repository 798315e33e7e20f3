use Rattle.requirement_report.proofs.Showable.{report_shown}
use Rattle.requirement_report.proofs.laws.reports_can_be_shown.Goals as goal

pub returns : goal.returns
returns c = report_shown c.lawful_can_be_shown.ensures
