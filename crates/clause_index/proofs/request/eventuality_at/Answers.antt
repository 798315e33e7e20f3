use Rattle.std.proofs.Common.{◌∙◌, sym, subst, length, ap, slice_index_or}
use Rattle.ltl_closure.specs.Closure.{closure as closure_of, eventualities}
use Rattle.ltl_closure.specs.Entries.{IsNumber}
use Rattle.ltl_closure.proofs.Known.{eventuality_in}
use Rattle.clause_index.specs.ByNumber.{right_by, request_by}
use Rattle.clause_index.proofs.Linked.{number_known, right_is, request_is, right_known, request_known}
use Rattle.clause_index.proofs.request.eventuality_at.Goals as goal

pub entry-requires : goal.entry-requires
entry-requires c = let f = c.args.closure.now.formula in
    number_known f (eventualities f) c.eventualities.result.now c.eventualities.ensures.numbers (eventuality_in f) c.args.index c.requires

pub returns-clause-right : goal.returns-clause-right
returns-clause-right c =
    let f = c.args.closure.now.formula in
    c.operands_of-of.ensures.right ∙ (ap (right_by (slice_index_or c.eventualities.result.now c.args.index 0)) c.entry.ensures.entry
    ∙ right_is c.args.closure.now.names f c.args.closure.now.entries c.entry.ensures.closure c.eventualities.result.now c.eventualities.ensures.numbers
    c.args.index c.requires)

pub returns-clause-request : goal.returns-clause-request
returns-clause-request c =
    let f = c.args.closure.now.formula in
    c.operands_of-of.ensures.request ∙ (ap (request_by (slice_index_or c.eventualities.result.now c.args.index 0)) c.entry.ensures.entry
    ∙ request_is c.args.closure.now.names f c.args.closure.now.entries c.entry.ensures.closure c.eventualities.result.now c.eventualities.ensures.numbers
    c.args.index c.requires)

pub returns-clause-right_known : goal.returns-clause-right_known
returns-clause-right_known c =
    let f = c.args.closure.now.formula in
    subst (IsNumber (length (closure_of f))) (sym (returns-clause-right c)) (right_known f c.args.index c.requires)

pub returns-clause-request_known : goal.returns-clause-request_known
returns-clause-request_known c =
    let f = c.args.closure.now.formula in
    subst (IsNumber (length (closure_of f))) (sym (returns-clause-request c)) (request_known f c.args.index c.requires)
