use Rattle.std.proofs.Common.{◌∙◌, ◌≤◌, subst}
use Rattle.ltl_syntax.specs.declared.node.Kind.TheVariants as kinds
use Rattle.system_check.specs.Joining.{IsJoined, whole_size}
use Rattle.report.specs.declared.fault.Fault.TheVariants as faults
use Rattle.black_top.specs.Answer.{refused}
use Rattle.black_top.specs.Inner.{IsLimit, IsTooDeep}
use Rattle.black_top.specs.System.{IsSettled, IsDecided}
use Rattle.black_top.proofs.SystemSettling.{refused_letters, settled_at, shown_both, shown_under}
use Rattle.black_top.proofs.commands.system.judge.Goals as goal

pub returns-in-Ok : goal.returns-in-Ok
returns-in-Ok c =
    let joined = c.args.joined.now in
    let depth = c.args.options.depth in
    let cert = c.args.options.cert in
    let limit = c.in-Ok.limit in
    let value = c.in_ok-closure.closure in
    let closure = c.in_ok-closure.ensures in
    let of_kind = subst (λ k. IsLimit value.formula k depth limit) closure.kind c.in-Ok.ensures.ok in
    shown_under (λ f g h. IsJoined f g h joined) (λ f g h. whole_size f g h ≤ 16384) (λ f g h. IsDecided f g h limit cert)
    (IsSettled depth cert) c.decide.result
    (λ f g h a is few there.
    settled_at depth cert f g h limit few is.forms (subst (λ x. IsLimit x kinds.Infinite depth limit) (closure.formula ∙ is.formulas.whole_is) of_kind) a there)
    c.decide.ensures

pub returns : goal.returns
returns c =
    let joined = c.args.joined.now in
    let depth = c.args.options.depth in
    let cert = c.args.options.cert in
    let limit = c.in-Err.limit in
    let value = c.in_ok-closure.closure in
    let closure = c.in_ok-closure.ensures in
    let of_kind = subst (λ k. IsTooDeep value.formula k depth limit) closure.kind c.in-Err.ensures.err in
    shown_both (λ f g h. IsJoined f g h joined) (λ f g h. whole_size f g h ≤ 16384) (IsSettled depth cert) (refused (faults.Letters limit)) c.refusal.result
    (λ f g h is few.
    refused_letters depth cert f g h limit few is.forms (subst (λ x. IsTooDeep x kinds.Infinite depth limit) (closure.formula ∙ is.formulas.whole_is) of_kind))
    c.refusal.ensures
