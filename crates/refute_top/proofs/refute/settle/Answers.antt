use Rattle.std.proofs.Common.{subst}
use Rattle.ltl_syntax.specs.Table.{tree_at}
use Rattle.refute_top.specs.Refuting.{IsFound}
use Rattle.refute_top.proofs.Showing.{shown_as}
use Rattle.refute_top.proofs.refute.settle.Goals as goal

pub returns-clause-found : goal.returns-clause-found
returns-clause-found g c =
    let value = c.in_ok-closure.closure in
    let is = c.in_ok-closure.ensures in
    let cert = c.args.options.cert in
    let f = tree_at c.args.table.now c.args.root in
    shown_as (IsFound value.kind cert value.formula) (IsFound c.args.options.kind cert f) c.take_turns.result
    (λ a h. subst (λ k. IsFound k cert f a) is.kind (subst (λ x. IsFound value.kind cert x a) is.formula h)) c.take_turns.ensures.found
