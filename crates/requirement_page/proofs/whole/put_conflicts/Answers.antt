use Rattle.std.proofs.Common.{◌+◌, ◌++◌, ◌∙◌, drop, ap₂, arith, refl}
use Rattle.requirement_document.specs.Values.{document_in}
use Rattle.requirement_report.specs.Parts.{core_at}
use Rattle.requirement_report.proofs.Loops.{one_more}
use Rattle.requirement_page.specs.Reasons.{conflict_article}
use Rattle.requirement_page.specs.Page.{conflict_articles}
use Rattle.requirement_page.proofs.whole.put_conflicts.Goals as goal

pub loop-because-preserved : goal.loop-because-preserved
loop-because-preserved c =
    let d = document_in c.args.document.now in
    let cores = c.args.cores.now in
    let xs = c.args.conflicts.now in
    let i = c.loop-because.because-index in
    let b = c.because-item.result in
    let n = c.loop-because.place in (
      one_more (conflict_articles d cores n) xs i b (conflict_article d (n + 1) (core_at cores n) b.value) (conflict_articles d cores (n + 1) (drop (i + 1) xs))
          _ _ _ c.loop-because-test.true c.because-item.is refl c.loop-because.invariant.0
          (c.in_ok-put_conflict.ensures
          ∙ ap₂ (λ core x. c.loop-because.out.items ++ conflict_article d (n + 1) core x) c.core_at-core.ensures c.deref.ensures),
      omega (arith, c.loop-because.invariant.1),
    )
