use Rattle.std.proofs.Common.{◌∙◌, sym, subst, ap, get_or}
use Rattle.ltl_closure.specs.Entries.{IsNumber}
use Rattle.claims.specs.Between.{width}
use Rattle.claim_check.specs.Bases.{right_by, request_by}
use Rattle.claim_check.proofs.Eventual.{known_at, right_at, request_at, right_known, request_known}
use Rattle.claim_check.proofs.base.operands_at.Goals as goal

pub entry-requires : goal.entry-requires
entry-requires c =
    known_at c.args.closure.now.formula c.args.index c.requires c.eventualities.result.now c.eventualities.ensures.numbers

pub returns-clause-right : goal.returns-clause-right
returns-clause-right c =
    c.operands_of.ensures.right ∙ (ap (right_by (get_or c.eventualities.result.now c.args.index 0)) c.entry.ensures.entry
    ∙ right_at c.args.closure.now.names c.args.closure.now.formula c.args.closure.now.entries c.entry.ensures.closure c.args.index c.requires
    c.eventualities.result.now c.eventualities.ensures.numbers)

pub returns-clause-request : goal.returns-clause-request
returns-clause-request c =
    c.operands_of.ensures.request ∙ (ap (request_by (get_or c.eventualities.result.now c.args.index 0)) c.entry.ensures.entry
    ∙ request_at c.args.closure.now.names c.args.closure.now.formula c.args.closure.now.entries c.entry.ensures.closure c.args.index c.requires
    c.eventualities.result.now c.eventualities.ensures.numbers)

pub returns-clause-right_known : goal.returns-clause-right_known
returns-clause-right_known c =
    subst (IsNumber (width c.args.closure.now.formula)) (sym (returns-clause-right c)) (right_known c.args.closure.now.formula c.args.index c.requires)

pub returns-clause-request_known : goal.returns-clause-request_known
returns-clause-request_known c =
    subst (IsNumber (width c.args.closure.now.formula)) (sym (returns-clause-request c)) (request_known c.args.closure.now.formula c.args.index c.requires)
