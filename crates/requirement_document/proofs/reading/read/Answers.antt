use Rattle.std.proofs.Common.{subst}
use Rattle.toml.specs.View.{table_view}
use Rattle.toml.proofs.Views.{view-Table}
use Rattle.requirement_document.specs.Document.{IsRefusedOf}
use Rattle.requirement_document.proofs.Refusing.{refused_text}
use Rattle.requirement_document.proofs.reading.read.Goals as goal

pub returns-in-Err-clause-refused : goal.returns-in-Err-clause-refused
returns-in-Err-clause-refused c = refused_text c.args.text.now (table_view c.in_ok-table.table) c.in-Err.refused c.in_ok-table.ensures.ok c.in-Err.ensures.err

pub returns-clause-refused : goal.returns-clause-refused
returns-clause-refused c =
    let refused = c.in-Err-document_of.refused in
    let wrong = subst (λ root. IsRefusedOf root refused) (view-Table c.in_ok-table.table) c.in-Err-document_of.ensures.err in
    refused_text c.args.text.now (table_view c.in_ok-table.table) refused c.in_ok-table.ensures.ok wrong
