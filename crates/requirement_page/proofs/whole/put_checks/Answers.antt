use Rattle.std.proofs.Common.{arith, refl}
use Rattle.requirement_document.specs.Values.{document_in}
use Rattle.requirement_page.specs.Page.{check_articles}
use Rattle.requirement_report.proofs.Loops.{one_more}
use Rattle.requirement_page.proofs.whole.put_checks.Goals as goal

pub loop-check-preserved : goal.loop-check-preserved
loop-check-preserved c =
    let d = document_in c.args.document.now in (
      one_more (check_articles d c.loop-check.number) c.args.checks.now c.loop-check.check-index c.check-item.result _ _ _ _ _ c.loop-check-test.true
          c.check-item.is refl c.loop-check.invariant.0 c.in_ok-put_check.ensures,
      omega (arith, c.loop-check.invariant.1),
    )
