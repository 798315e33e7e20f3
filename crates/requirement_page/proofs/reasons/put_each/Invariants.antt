use Rattle.std.proofs.Common.{◌≡◌, ◌++◌, drop}
use Rattle.std.specs.Option.{option_copied}
use Rattle.requirement_document.specs.Values.{document_in}
use Rattle.requirement_page.specs.Reasons.{members_described}
use Rattle.requirement_page.proofs.reasons.put_each.Given as goal

abbrev pub invariant-members : goal.invariant-members
invariant-members l =
    l.out.items ++ members_described (document_in l.document) (option_copied l.core) l.place (drop l.place l.members)
    ≡ l.fn.out.items ++ members_described (document_in l.document) (option_copied l.core) 0 l.members
