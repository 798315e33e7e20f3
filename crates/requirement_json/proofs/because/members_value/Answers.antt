use Rattle.std.proofs.Common.{◌+◌, [], ◌∷◌, ◌++◌, ◌∙◌, map, drop, ap, refl, false}
use Rattle.std.specs.Option.{option_copied}
use Rattle.std.proofs.lemmas.List.{map-append}
use Rattle.serde_json.specs.View.{view}
use Rattle.requirement_document.specs.Values.{document_in}
use Rattle.requirement_report.specs.Parts.{part_of}
use Rattle.requirement_report.proofs.Loops.{copied_more}
use Rattle.requirement_json.specs.Because.{members_from}
use Rattle.requirement_json.proofs.because.members_value.Goals as goal

pub members-preserved : goal.members-preserved
members-preserved c =
    let d = document_in c.args.document.now in
    let parts = part_of (option_copied c.args.core) in
    let xs = c.args.members.now in
    let k = c.members.place in
    let old = c.members.values.items in
    let value = c.in_ok-value.value in
    copied_more (members_from d parts k) xs k (record { given = 0; needed = false }) _ (members_from d parts (k + 1) (drop (k + 1) xs)) _ _ _
    c.members-test.true refl c.members.invariant
    (ap (map view) c.in_ok-push.ensures.items ∙ map-append view old (value ∷ []) ∙ ap (λ v. map view old ++ v ∷ []) c.in_ok-value.ensures)
