use Rattle.std.proofs.Common.{◌+◌, drop, refl, false}
use Rattle.std.specs.Option.{option_copied}
use Rattle.requirement_document.specs.Values.{document_in}
use Rattle.requirement_report.proofs.Loops.{copied_more}
use Rattle.requirement_page.specs.Reasons.{members_described}
use Rattle.requirement_page.proofs.reasons.put_each.Goals as goal

pub members-preserved : goal.members-preserved
members-preserved c =
    let d = document_in c.args.document.now in
    let core = option_copied c.args.core in
    let xs = c.args.members.now in
    let k = c.members.place in
    copied_more (members_described d core k) xs k (record { given = 0; needed = false }) _ (members_described d core (k + 1) (drop (k + 1) xs)) _ _ _
    c.members-test.true refl c.members.invariant c.in_ok-put_member.ensures
