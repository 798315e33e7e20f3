use Rattle.std.proofs.Common.{◌≡◌, ◌++◌, drop}
use Rattle.std.specs.Option.{option_copied}
use Rattle.requirement_document.specs.Values.{document_in}
use Rattle.requirement_report.specs.Text.{members_lines}
use Rattle.requirement_report.proofs.conflicts.put_each.Given as goal

abbrev pub invariant-members : goal.invariant-members
invariant-members l =
    l.out.items ++ members_lines (document_in l.document) (option_copied l.core) l.place (drop l.place l.members)
    ≡ l.fn.out.items ++ members_lines (document_in l.document) (option_copied l.core) 0 l.members
