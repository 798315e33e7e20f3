use Rattle.requirement_document.proofs.Examples.{worked_documents}
use Rattle.requirement_document.proofs.laws.worked.Goals as goal

pub returns : goal.returns
returns c = worked_documents c.printed_text.ensures.reads
