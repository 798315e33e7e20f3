use Rattle.std.proofs.Common.{◌∙◌, sym, subst, length, ap, slice_index_or}
use Rattle.ltl_closure.specs.Closure.{closure as closure_of, yesterdays}
use Rattle.ltl_closure.specs.Entries.{IsNumber}
use Rattle.ltl_closure.proofs.Known.{yesterday_in}
use Rattle.clause_index.specs.ByNumber.{argument_by, weak_by}
use Rattle.clause_index.proofs.Linked.{number_known, argument_number_known, member_argument, member_weak}
use Rattle.clause_index.proofs.request.yesterday_at.Goals as goal

pub entry-requires : goal.entry-requires
entry-requires c = let f = c.args.closure.now.formula in
    number_known f (yesterdays f) c.yesterdays.result.now c.yesterdays.ensures.numbers (yesterday_in f) c.args.index c.requires

pub returns-clause-argument : goal.returns-clause-argument
returns-clause-argument c =
    let f = c.args.closure.now.formula in
    c.request_of.ensures.argument ∙ (ap (argument_by (slice_index_or c.yesterdays.result.now c.args.index 0)) c.entry.ensures.entry
    ∙ member_argument c.args.closure.now.names f c.args.closure.now.entries c.entry.ensures.closure (yesterdays f) (yesterday_in f)
    c.yesterdays.result.now c.yesterdays.ensures.numbers c.args.index c.requires)

pub returns-clause-weak : goal.returns-clause-weak
returns-clause-weak c =
    let f = c.args.closure.now.formula in
    let entry = c.entry.ensures.entry in
    c.request_of.ensures.weak ∙ (ap weak_by entry ∙ member_weak c.args.closure.now.names f c.args.closure.now.entries c.entry.ensures.closure (yesterdays f)
    (yesterday_in f) c.yesterdays.result.now c.yesterdays.ensures.numbers c.args.index c.requires)

pub returns-clause-known : goal.returns-clause-known
returns-clause-known c =
    let f = c.args.closure.now.formula in
    subst (IsNumber (length (closure_of f))) (sym c.request_of.ensures.number)
    (number_known f (yesterdays f) c.yesterdays.result.now c.yesterdays.ensures.numbers (yesterday_in f) c.args.index c.requires)

pub returns-clause-argument_known : goal.returns-clause-argument_known
returns-clause-argument_known c =
    let f = c.args.closure.now.formula in
    subst (IsNumber (length (closure_of f))) (sym (returns-clause-argument c)) (argument_number_known f (yesterdays f) (yesterday_in f) c.args.index c.requires)
