use Rattle.std.proofs.Common.{◌+◌, drop, get_or, refl, flat_map}
use Rattle.requirement_document.specs.Values.{document_in}
use Rattle.requirement_page.specs.Checks.{broken_item}
use Rattle.requirement_report.proofs.Loops.{copied_more}
use Rattle.requirement_page.proofs.checks.put_all_broken.Goals as goal

pub loop-broken-preserved : goal.loop-broken-preserved
loop-broken-preserved c =
    let d = document_in c.args.document.now in
    let xs = c.args.breaks.now in
    let i = c.loop-broken.broken-index in
    copied_more (flat_map (broken_item d)) xs i (record { item = 0; position = 0 }) (broken_item d (get_or xs i (record { item = 0; position = 0 })))
    (flat_map (broken_item d) (drop (i + 1) xs)) _ _ _ c.loop-broken-test.true refl c.loop-broken.invariant c.in_ok-put_broken.ensures
