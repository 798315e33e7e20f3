use Rattle.std.proofs.lemmas.Result.{IfOk-weaker}
use Rattle.requirement_document.specs.Values.{document_in}
use Rattle.requirement_document.specs.Document.{HasFault}
use Rattle.requirements_top.specs.Said.{query_of}
use Rattle.requirements_top.specs.Refusing.{refusal_text, refusal_status}
use Rattle.requirements_top.specs.Answer.{IsOutput, refused, printed}
use Rattle.requirements_top.proofs.Showing.{shown}
use Rattle.requirements_top.proofs.answer.output.Goals as goal

pub printed-requires-clause-traces : goal.printed-requires-clause-traces
printed-requires-clause-traces g c κs lives = c.behaviours_are_traces.ensures c.args.bytes.now (document_in c.in-Ok.document) c.in-Ok.ensures.document

pub returns-in-Ok-clause-lawful : goal.returns-in-Ok-clause-lawful
returns-in-Ok-clause-lawful g c =
    let d = c.in-Ok.document in
    IfOk-weaker c.printed.result _ _ (λ out h. printed d out.status out.text.items c.in-Ok.ensures.document h) c.printed.ensures.printed

pub returns-in-Err-Fault-clause-lawful : goal.returns-in-Err-Fault-clause-lawful
returns-in-Err-Fault-clause-lawful g c =
    let f = c.in-Err-Fault.fault in
    let is : HasFault c.args.bytes.now f = rw c.in-Err-Fault.field-0-is at c.in-Err-Fault.ensures.refused in
    shown (IsOutput (query_of c.args.query) c.args.bytes.now) (refusal_status f) (refusal_text f) c.refusal.result (refused f is) c.refusal.ensures
