use Rattle.std.proofs.Common.{◌≡◌, ◌+◌, [], ◌∷◌, ◌++◌, ◌∙◌, map, drop, ap, ap₂, arith, refl}
use Rattle.std.proofs.lemmas.List.{map-append}
use Rattle.serde_json.specs.View.{view}
use Rattle.requirement_document.specs.Values.{document_in}
use Rattle.requirement_report.specs.Parts.{core_at}
use Rattle.requirement_report.proofs.Loops.{one_more}
use Rattle.requirement_json.specs.Answers.{conflict_data, conflicts_from}
use Rattle.requirement_json.proofs.listing.push_conflicts.Goals as goal

pub loop-because-preserved : goal.loop-because-preserved
loop-because-preserved c =
    let d = document_in c.args.document.now in
    let cores = c.args.cores.now in
    let xs = c.args.conflicts.now in
    let i = c.loop-because.because-index in
    let b = c.because-item.result in
    let n = c.loop-because.place in
    let old = c.loop-because.answers.items in
    let value = c.in_ok-value.value in
    let is : view value ≡ conflict_data d (core_at cores n) b.value =
    c.in_ok-value.ensures ∙ ap₂ (λ core x. conflict_data d core x) c.core_at.ensures c.deref.ensures in (
      one_more (conflicts_from d cores n) xs i b (conflict_data d (core_at cores n) b.value ∷ []) (conflicts_from d cores (n + 1) (drop (i + 1) xs)) _ _ _
          c.loop-because-test.true c.because-item.is refl c.loop-because.invariant.0
          (ap (map view) c.in_ok-push.ensures.items ∙ map-append view old (value ∷ []) ∙ ap (λ v. map view old ++ v ∷ []) is),
      omega (arith, c.loop-because.invariant.1),
    )
