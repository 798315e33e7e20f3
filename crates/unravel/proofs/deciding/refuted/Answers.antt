use Rattle.std.proofs.Common.{refl, subst, sym}
use Rattle.derivation.specs.Steps.{DerivationValue}
use Rattle.unravel.specs.Decision.{IsRefutation}
use Rattle.unravel.specs.Settling.{IsClosed}
use Rattle.unravel.proofs.Verdicts.{refutation, log_named}
use Rattle.unravel.proofs.deciding.refuted.Goals as goal

pub of-requires : goal.of-requires
of-requires c =
    let f = c.args.closure.now.formula in
    let kind = c.args.closure.now.kind in
    let k = c.args.depth in
    let is_closed = subst (λ i. IsClosed f kind k i c.args.targets.items) (sym c.replace-solver.ensures.value) c.requires.closed in
    log_named f kind k c.replace-solver.result c.args.targets.items is_closed c.into_log-log.result c.into_log-log.ensures.log

pub returns : goal.returns
returns c =
    let f = c.args.closure.now.formula in
    let kind = c.args.closure.now.kind in
    let k = c.args.depth in
    let targets = c.args.targets.items in
    let is_closed = subst (λ i. IsClosed f kind k i targets) (sym c.replace-solver.ensures.value) c.requires.closed in
    let refutes = refutation f kind k c.replace-solver.result targets is_closed c.into_log-log.result c.into_log-log.ensures.log c.invariant.ensures
    c.into_log-log.ensures.lines in
    (refl, subst (λ (d : DerivationValue). IsRefutation f kind k d targets) (sym c.of.ensures) refutes)
