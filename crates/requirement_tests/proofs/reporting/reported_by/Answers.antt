use Rattle.requirement_tests.proofs.reporting.reported_by.Goals as goal

pub returns : goal.returns
returns g c = record {
  shown = c.reports_can_be_shown.ensures _ _ _ c.in_ok-report.ensures.report;
  formulas = c.reports_have_formulas.ensures _ _ _ c.in_ok-report.ensures.report;
}
