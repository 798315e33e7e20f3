use Rattle.std.proofs.Common.{append_assoc, ap}
use Rattle.ltl_syntax.specs.Print.{text_of}
use Rattle.claim_reading.proofs.Works.{works_text_push}
use Rattle.claim_reading.proofs.printing.step.Goals as goal

pub returns-in_ok-push-in-Binary-5-clause-text : goal.returns-in_ok-push-in-Binary-5-clause-text
returns-in_ok-push-in-Binary-5-clause-text c =
    rw (
      c.in_ok-push-in-Binary-5.ensures.items,
      works_text_push c.args.closure.now.formula,
      c.in_ok-push-in-Binary-4.ensures.items,
      works_text_push c.args.closure.now.formula,
      c.in_ok-push-in-Binary-3.ensures.items,
      works_text_push c.args.closure.now.formula,
      c.in_ok-push-in-Binary-2.ensures.items,
      works_text_push c.args.closure.now.formula,
      c.in_ok-push-in-Binary.ensures.items,
      c.in-Entry.is,
      ap text_of c.node_of.ensures.formula,
      c.in-Binary.is,
    ) (simp append_assoc)
